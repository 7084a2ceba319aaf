use Rattle.std.proofs.Common.{List}
use Rattle.qc_model.specs.Verdict.{Verdict}
use Rattle.dense_tree.specs.Tree.{Given}
use Rattle.dense_ledger.specs.Ledger.{Ledger}
use Rattle.std.specs.Prelude.{slice_get}
use Rattle.dense_nest.specs.Goes.{verdict_known}
use Rattle.dense_nest.proofs.NodeFinds.{some_over, over_goes}
use Rattle.dense_nest.proofs.nest.Nest.tell_again.Goals as goal

pub node_over-requires : goal.node_over-requires
node_over-requires c =
    let m = c.args.self.now in
    let e = c.args.e in
    let f : List Given → Ledger → Verdict = λ us d. verdict_known (slice_get d.known c.args.n) in
    record { over = some_over m c.take_told.new.self e f c.take_told.ensures.finds c.requires.node }

pub returns-clause-goes : goal.returns-clause-goes
returns-clause-goes c =
    let m = c.args.self.now in
    let e = c.args.e in
    let f : List Given → Ledger → Verdict = λ us d. verdict_known (slice_get d.known c.args.n) in
    over_goes c.node_over.result m c.take_told.new.self c.node_over.new.self e f c.take_told.ensures.remains c.take_told.ensures.same c.take_told.ensures.finds c.node_over.ensures.goes
