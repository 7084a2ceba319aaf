use Rattle.std.proofs.Common.{List}
use Rattle.qc_model.specs.Verdict.{Verdict}
use Rattle.dense_tree.specs.Tree.{Given}
use Rattle.dense_ledger.specs.Ledger.{Ledger}
use Rattle.dense_tree.specs.Verdicts.{stuck_comes_to}
use Rattle.dense_nest.specs.Places.{entry_told}
use Rattle.dense_nest.specs.Telling.{game_of}
use Rattle.dense_nest.specs.Ends.{given_to}
use Rattle.dense_nest.proofs.NodeFinds.{some_over, over_goes}
use Rattle.dense_nest.proofs.nest.Nest.stop.Goals as goal

pub node_over-requires : goal.node_over-requires
node_over-requires c =
    let m = c.args.self.now in
    let e = c.args.e in
    let f : List Given → Ledger → Verdict = λ us d. stuck_comes_to (given_to m us) (entry_told (game_of m) m.remains e).place (entry_told (game_of m) m.remains e).place.later in
    record { over = some_over m c.find_stuck.new.self e f c.find_stuck.ensures.finds c.requires.node }

pub returns-clause-goes : goal.returns-clause-goes
returns-clause-goes c =
    let m = c.args.self.now in
    let e = c.args.e in
    let f : List Given → Ledger → Verdict = λ us d. stuck_comes_to (given_to m us) (entry_told (game_of m) m.remains e).place (entry_told (game_of m) m.remains e).place.later in
    over_goes c.node_over.result m c.find_stuck.new.self c.node_over.new.self e f c.find_stuck.ensures.remains c.find_stuck.ensures.same c.find_stuck.ensures.finds c.node_over.ensures.goes
