use Rattle.std.proofs.Common.{subst, Some, List}
use Rattle.std.proofs.lemmas.Result.{IfOk-weaker}
use Rattle.qc_model.specs.Domains.{Box}
use Rattle.qc_model.specs.Verdict.{Verdict}
use Rattle.dense_tree.specs.Tree.{Given}
use Rattle.dense_tree.specs.Verdicts.{loosened}
use Rattle.dense_ledger.specs.Ledger.{Ledger, setting_of, part_ended, node_ended}
use Rattle.dense_nest.specs.Places.{entry_told}
use Rattle.dense_nest.specs.Telling.{game_of, TellsOf}
use Rattle.dense_nest.specs.Goes.{IsOver, PartGoes}
use Rattle.dense_nest.specs.Ends.{given_to, Leaves}
use Rattle.dense_nest.proofs.NodeEnds.{over, ended, part, goes_on}
use Rattle.dense_nest.proofs.nest.Nest.node_over.Goals as goal

pub leave-requires : goal.leave-requires
leave-requires c =
    let m = c.args.self.now in
    let e = c.args.e in
    let p = c.requires.over in
    record { over = (p.0, p.1, loosened (given_to m p.0) (entry_told (game_of m) m.remains e).place p.2, p.3, over m c.loosen.new.self e c.loosen.ensures.verdict c.loosen.ensures.rest p.0 p.1 p.2 p.3 p.4) }

pub returns-then-not-branch-clause-goes : goal.returns-then-not-branch-clause-goes
returns-then-not-branch-clause-goes c =
    let m2 = c.loosen.new.self in
    let m3 = c.leave.new.self in
    let e = c.args.e in
    let is = c.if-not-branch.true in
    ended c.args.self.now m2 e c.loosen.ensures.verdict c.loosen.ensures.rest m3 c.leave.ensures.same (subst (Leaves m2 e m3) is c.in_ok-leave.ensures.leaves)

pub part_over-requires : goal.part_over-requires
part_over-requires c =
    let m2 = c.loosen.new.self in
    let m3 = c.leave.new.self in
    let e = c.args.e in
    let p = c.requires.over in
    let is = c.if-not-branch.false in
    let x = part c.args.self.now m2 e c.loosen.ensures.verdict c.loosen.ensures.rest m3 c.leave.ensures.same (subst (Leaves m2 e m3) is c.in_ok-leave.ensures.leaves) p.0 p.1 p.2 p.3 p.4 in
    record { part = (p.0, p.1, x.0, x.1) }

pub returns-clause-goes : goal.returns-clause-goes
returns-clause-goes c =
    let m = c.args.self.now in
    let m2 = c.loosen.new.self in
    let m3 = c.leave.new.self in
    let m4 = c.part_over.new.self in
    let e = c.args.e in
    let is = c.if-not-branch.false in
    let leaves = subst (Leaves m2 e m3) is c.in_ok-leave.ensures.leaves in
    IfOk-weaker c.part_over.result (λ x. PartGoes m3 m4 (λ d. Some (part_ended (setting_of (game_of m3) d) d d.own d.frames)))
    (λ x. (us : List Given) (boxes : List Box) (v : Verdict) (d : Ledger) → IsOver m e us boxes v d →
    TellsOf m4 us boxes (Some (node_ended (setting_of (game_of m) d) d (entry_told (game_of m) m.remains e) (loosened (setting_of (game_of m) d) (entry_told (game_of m) m.remains e).place v) d.frames)))
    (λ x h. goes_on m m2 e c.loosen.ensures.verdict c.loosen.ensures.rest m3 c.leave.ensures.same leaves m4 h) c.part_over.ensures.goes
