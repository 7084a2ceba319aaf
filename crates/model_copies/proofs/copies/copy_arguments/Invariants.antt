use Rattle.std.proofs.Common.{◌≡◌, ◌++◌, drop}
use Rattle.model_copies.proofs.copies.copy_arguments.Given as goal

abbrev pub invariant-loop-argument : goal.invariant-loop-argument
invariant-loop-argument l = l.copies.items ++ drop l.argument-index l.arguments ≡ l.arguments
