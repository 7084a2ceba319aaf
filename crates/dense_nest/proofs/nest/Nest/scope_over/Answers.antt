use Rattle.std.proofs.lemmas.Result.{IfOk-weaker}
use Rattle.dense_nest.specs.Ends.{given_to, Leaves, PartEnds}
use Rattle.dense_ledger.specs.Ledger.{own_verdict}
use Rattle.dense_nest.proofs.Closing.{tree_end, ends}
use Rattle.dense_nest.proofs.nest.Nest.scope_over.Goals as goal

pub finish_scope-requires : goal.finish_scope-requires
finish_scope-requires c =
    let m = c.args.self.now in
    let p = c.requires.part in
    record { ended = (p.0, p.1, p.2, tree_end m c.undo_to.new.self c.undo_to.ensures.past c.undo_to.ensures.content c.requires.unforked p.0 p.1 p.2 p.3) }

pub leave-requires : goal.leave-requires
leave-requires c =
    let m = c.args.self.now in
    let p = c.requires.part in
    let f = c.finish_scope.ensures.finishes p.0 p.1 p.2 (tree_end m c.undo_to.new.self c.undo_to.ensures.past c.undo_to.ensures.content c.requires.unforked p.0 p.1 p.2 p.3) in
    record { over = (p.0, p.1, own_verdict (given_to m p.0) p.2.own, p.2, f.0) }

pub returns-clause-ends : goal.returns-clause-ends
returns-clause-ends c =
    let m = c.args.self.now in
    let m3 = c.finish_scope.new.self in
    let m4 = c.leave.new.self in
    let f = c.finish_scope.ensures in
    IfOk-weaker c.leave.result (Leaves m3 m.entry m4) (PartEnds m m4)
    (ends m c.undo_to.new.self c.undo_to.ensures.past c.undo_to.ensures.content c.requires.unforked m3 m4 f.finishes f.remains f.same c.leave.ensures.same) c.leave.ensures.leaves
