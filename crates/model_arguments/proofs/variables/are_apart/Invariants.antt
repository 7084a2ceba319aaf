use Rattle.std.proofs.Common.{◌≡◌, length}
use Rattle.model_arguments.specs.Apart.{all_apart}
use Rattle.model_arguments.specs.Written.{variable_numbers}
use Rattle.model_arguments.proofs.variables.are_apart.Given as goal

abbrev pub invariant-loop-x : goal.invariant-loop-x
invariant-loop-x l = all_apart (variable_numbers l.rest) ≡ all_apart (variable_numbers l.variables)

abbrev pub decreases-loop-x : goal.decreases-loop-x
decreases-loop-x l = length l.rest
