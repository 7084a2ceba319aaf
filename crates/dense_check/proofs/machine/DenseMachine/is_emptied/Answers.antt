use Rattle.std.proofs.Common.{◌≡◌, ◌∙◌, ap, subst, false, Some, None, drop}
use Rattle.std.specs.Prelude.{MatchBool}
use Rattle.qc_model.specs.Domains.{has_empty}
use Rattle.dense_tree.specs.Free.{takes, joint_stop}
use Rattle.fd_store.specs.Held.{Held}
use Rattle.dense_tree.specs.Place.{closed_box}
use Rattle.dense_ledger.specs.Ledger.{setting_of}
use Rattle.dense_check.specs.Telling.{game_of, here_in}
use Rattle.dense_check.proofs.Stepping.{closed_full}
use Rattle.dense_check.proofs.Ending.{part_on, in_part_on, stop_order, stop_bound, emptied_not, emptied_by}
use Rattle.std.specs.List.{list_any}
use Rattle.qc_model.specs.Block.{constraints_within}
use Rattle.dense_close.specs.Answerless.{is_answerless}
use Rattle.dense_check.proofs.machine.DenseMachine.is_emptied.Goals as goal

pub has_answerless-requires-clause-order : goal.has_answerless-requires-clause-order
has_answerless-requires-clause-order c = stop_order c.close_here.new.self c.scope-i.result.0 c.joint_stop-stop.result (in_part_on c.args.self.now c.close_here.new.self c.close_here.ensures.rest c.close_here.ensures.past c.close_here.ensures.declared c.requires.part) c.scope-i.ensures c.joint_stop-stop.ensures

pub has_answerless-requires-clause-bound : goal.has_answerless-requires-clause-bound
has_answerless-requires-clause-bound c = stop_bound c.close_here.new.self c.scope-i.result.0 c.joint_stop-stop.result (in_part_on c.args.self.now c.close_here.new.self c.close_here.ensures.rest c.close_here.ensures.past c.close_here.ensures.declared c.requires.part) c.scope-i.ensures c.joint_stop-stop.ensures

pub has_answerless-requires-clause-full : goal.has_answerless-requires-clause-full
has_answerless-requires-clause-full c =
    let d = c.requires.part.0 in
    let h = c.requires.part.1 in
    let bounded = false in
    let i = c.args.self.now.nest.entry.spot.number in
    ap (λ (h : Held). has_empty h.box) c.store.ensures ∙ closed_full (takes (game_of c.args.self.now)) (game_of c.args.self.now) i (joint_stop (game_of c.args.self.now) d.given (drop i (game_of c.args.self.now).scopes) i) c.args.self.now.nest.remains.box c.close_here.new.self.nest.remains.box (subst (λ b. MatchBool b (closed_box (setting_of (game_of c.args.self.now) d) (here_in c.args.self.now bounded) ≡ Some c.close_here.new.self.nest.remains.box) (closed_box (setting_of (game_of c.args.self.now) d) (here_in c.args.self.now bounded) ≡ None)) c.if-not-close_here.false (c.close_here.ensures.closed d h bounded))

pub returns-then-not-close_here-clause-emptied : goal.returns-then-not-close_here-clause-emptied
returns-then-not-close_here-clause-emptied c = λ d h bounded. emptied_not (setting_of (game_of c.args.self.now) d) (here_in c.args.self.now bounded) (subst (λ b. MatchBool b (closed_box (setting_of (game_of c.args.self.now) d) (here_in c.args.self.now bounded) ≡ Some c.close_here.new.self.nest.remains.box) (closed_box (setting_of (game_of c.args.self.now) d) (here_in c.args.self.now bounded) ≡ None)) c.if-not-close_here.true (c.close_here.ensures.closed d h bounded))

pub returns-clause-emptied : goal.returns-clause-emptied
returns-clause-emptied c = λ d h bounded. emptied_by c.args.self.now c.close_here.new.self d bounded c.scope-i.result.0 c.joint_stop-stop.result c.has_answerless.result c.close_here.ensures.rest c.scope-i.ensures (c.joint_stop-stop.ensures (game_of c.close_here.new.self) d.given (part_on c.args.self.now c.close_here.new.self d c.close_here.ensures.rest c.close_here.ensures.past c.close_here.ensures.declared h).knows.given) (subst (λ b. MatchBool b (closed_box (setting_of (game_of c.args.self.now) d) (here_in c.args.self.now bounded) ≡ Some c.close_here.new.self.nest.remains.box) (closed_box (setting_of (game_of c.args.self.now) d) (here_in c.args.self.now bounded) ≡ None)) c.if-not-close_here.false (c.close_here.ensures.closed d h bounded)) (subst (λ (h : Held). c.has_answerless.result ≡ list_any (is_answerless (game_of c.close_here.new.self) c.scope-i.result.0 h.box) (constraints_within (game_of c.close_here.new.self) c.scope-i.result.0 c.joint_stop-stop.result)) c.store.ensures c.has_answerless.ensures)
