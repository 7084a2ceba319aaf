use Rattle.std.proofs.Common.{List}
use Rattle.qc_model.specs.Verdict.{Verdict}
use Rattle.dense_tree.specs.Tree.{Given}
use Rattle.dense_ledger.specs.Ledger.{Ledger}
use Rattle.dense_nest.specs.Places.{entry_told}
use Rattle.dense_nest.specs.Telling.{game_of}
use Rattle.dense_nest.specs.Goes.{goal_of}
use Rattle.dense_nest.proofs.NodeFinds.{some_over, over_goes}
use Rattle.dense_nest.proofs.nest.Nest.reach.Goals as goal

pub node_over-requires : goal.node_over-requires
node_over-requires c =
    let m = c.args.self.now in
    let e = c.args.e in
    let f : List Given → Ledger → Verdict = λ us d. goal_of (entry_told (game_of m) m.remains e).place (game_of m) c.args.reached in
    record { over = some_over m c.find_goal.new.self e f c.find_goal.ensures.finds c.requires.node }

pub returns-clause-goes : goal.returns-clause-goes
returns-clause-goes c =
    let m = c.args.self.now in
    let e = c.args.e in
    let f : List Given → Ledger → Verdict = λ us d. goal_of (entry_told (game_of m) m.remains e).place (game_of m) c.args.reached in
    over_goes c.node_over.result m c.find_goal.new.self c.node_over.new.self e f c.find_goal.ensures.remains c.find_goal.ensures.same c.find_goal.ensures.finds c.node_over.ensures.goes
