use Rattle.std.proofs.Common.{◌≡◌}
use Rattle.qc_model.specs.Domains.{declared_box}
use Rattle.dense_board.specs.Saved.{KnowsScopes}
use Rattle.dense_board.proofs.starting.give_each.Given as goal

abbrev pub invariant-loop-it : goal.invariant-loop-it
invariant-loop-it l = record {
  content : l.remains.box ≡ declared_box l.levels.problem.now;
  knows : KnowsScopes l.levels.problem.now l.freedom;
}
