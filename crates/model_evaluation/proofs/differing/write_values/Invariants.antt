use Rattle.std.proofs.Common.{◌≡◌, take}
use Rattle.model_evaluation.specs.Evaluation.{item_values}
use Rattle.model_evaluation.proofs.differing.write_values.Given as goal

abbrev pub invariant-loop-k : goal.invariant-loop-k
invariant-loop-k l = take l.k l.buffer ≡ take l.k (item_values l.values l.items)
