use Rattle.std.proofs.Common.{◌≡◌, drop}
use Rattle.qc_model.specs.Block.{block_stop as block_stop_of}
use Rattle.model_levels.proofs.blocks.block_stop.Given as goal

abbrev pub invariant-loop-at : goal.invariant-loop-at
invariant-loop-at l = block_stop_of (drop l.at l.problem.scopes) l.at ≡ block_stop_of (drop l.i l.problem.scopes) l.i
