-- Sums against what they are compared with: each is tested by the difference of the two.
use Rattle.std.specs.Prelude.{ℕ, ◌==◌, Bool, true, not, cond, List, [], ◌∷◌, map, ℤ, pos, ◌+ℤ◌, ◌-ℤ◌, int_le}
use Rattle.std.specs.Ordering.{int_eq}
use Rattle.qc_model.specs.declared.problem.Arg.{Arg}
use Rattle.qc_model.specs.declared.problem.Arg.TheVariants.{Var, Num}
use Rattle.qc_model.specs.Content.{Rule}
use Rattle.qc_model.specs.Arguments.{fill, numbers}
use Rattle.qc_model.specs.Holds.{Given, value_at, values_at, sum_of_products, arg_value}
use Rattle.qc_model.specs.Meaning.{Meaning, sum_equal, sum_different, sum_at_most, meaning_of}
use Rattle.model_arguments.specs.Written.{arg_at, args_at, ints_at}
use Rattle.check_assignment.specs.declared.test.Test.{Test}
use Rattle.check_assignment.specs.declared.test.Test.TheVariants.{Equal, Different, AtMost, Other}

abbrev pub balance_of : Given → ℤ
balance_of given = sum_of_products (numbers given 0) (values_at given 1) -ℤ value_at given 2

-- what the sum comes to on these values, less what it is compared with
abbrev pub balance : List ℤ → Rule → ℤ
balance vs c = balance_of (map (fill (arg_value vs)) c.args)

abbrev pub tested : Meaning → Arg → Test
tested sum_equal (Num n) = Equal
tested sum_different (Num n) = Different
tested sum_at_most (Num n) = AtMost
tested _ _ = Other

-- how the constraint is tested: a sum that is compared with a number by its balance
abbrev pub test_of : Rule → Test
test_of c = tested (meaning_of c.pred) (arg_at c.args 2)

abbrev pub passes : Test → ℤ → Bool
passes Equal z = int_eq z (pos 0)
passes Different z = not (int_eq z (pos 0))
passes AtMost z = int_le z (pos 0)
passes Other z = true

-- what is kept of a constraint that is tested so
abbrev pub total_of : Test → List ℤ → Rule → ℤ
total_of Other vs c = pos 0
total_of _ vs c = balance vs c

abbrev pub factor_of : ℕ → ℤ → Arg → ℤ
factor_of x f (Var y) = cond (y.0 == x) f (pos 0)
factor_of x f (Num n) = pos 0

-- by how much the sum grows as x grows by one
abbrev pub slope : ℕ → List ℤ → List Arg → ℤ
slope x [] items = pos 0
slope x (f ∷ fs) [] = pos 0
slope x (f ∷ fs) (a ∷ items) = factor_of x f a +ℤ slope x fs items

abbrev pub slope_of : Test → ℕ → Rule → ℤ
slope_of Other x c = pos 0
slope_of _ x c = slope x (ints_at c.args 0) (args_at c.args 1)
