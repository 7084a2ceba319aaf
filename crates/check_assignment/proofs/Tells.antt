-- That a constraint's balance tells whether it holds.
use Rattle.std.proofs.Common.{◌≡◌, not, List, map, refl, sym, ap, ◌∙◌, subst, arith, ℤ}
use Rattle.std.specs.Prelude.{pos, ◌-ℤ◌, int_le}
use Rattle.std.specs.Ordering.{int_eq}
use Rattle.std.proofs.lemmas.Int.{ints}
use Rattle.qc_model.specs.declared.problem.Arg.{Arg}
use Rattle.qc_model.specs.declared.problem.Arg.TheVariants.{Num}
use Rattle.qc_model.specs.Content.{Rule}
use Rattle.qc_model.specs.Arguments.{fill, numbers}
use Rattle.qc_model.specs.Meaning.{Meaning, sum_equal, sum_different, sum_at_most, meaning_of}
use Rattle.qc_model.specs.Holds.{Given, value_at, values_at, sum_of_products, arg_value, holds_as, holds_on}
use Rattle.model_arguments.specs.Written.{arg_at}
use Rattle.check_assignment.specs.declared.test.Test.{Test}
use Rattle.check_assignment.specs.declared.test.Test.TheVariants.{Equal, Different, AtMost, Other}
use Rattle.check_assignment.specs.Balance.{balance_of, balance, tested, test_of, passes, total_of}

equal_less : (a b : ℤ) → int_eq a b ≡ int_eq (a -ℤ b) (pos 0)
equal_less a b = grind (arith, ints)

most_less : (a b : ℤ) → int_le a b ≡ int_le (a -ℤ b) (pos 0)
most_less a b = grind (arith, ints)

tells : (m : Meaning) (a : Arg) (given : Given) → (tested m a ≡ Other → ⊥) → holds_as m given ≡ passes (tested m a) (balance_of given)
tells sum_equal (Num n) given f = equal_less (sum_of_products (numbers given 0) (values_at given 1)) (value_at given 2)
tells sum_different (Num n) given f = ap not (equal_less (sum_of_products (numbers given 0) (values_at given 1)) (value_at given 2))
tells sum_at_most (Num n) given f = most_less (sum_of_products (numbers given 0) (values_at given 1)) (value_at given 2)
tells m a given f = absurd (f refl)

pub holds_by_balance : (vs : List ℤ) (c : Rule) (t : Test) → test_of c ≡ t → (t ≡ Other → ⊥) → holds_on c vs ≡ passes t (balance vs c)
holds_by_balance vs c t e f =
    subst (λ r. holds_on c vs ≡ passes r (balance vs c)) e
    (tells (meaning_of c.pred) (arg_at c.args 2) (map (fill (arg_value vs)) c.args) (λ o. f (sym e ∙ o)))

pub holds_by_total : (vs : List ℤ) (c : Rule) (t : Test) → test_of c ≡ t → (t ≡ Other → ⊥) → holds_on c vs ≡ passes t (total_of t vs c)
holds_by_total vs c Equal e f = holds_by_balance vs c Equal e f
holds_by_total vs c Different e f = holds_by_balance vs c Different e f
holds_by_total vs c AtMost e f = holds_by_balance vs c AtMost e f
holds_by_total vs c Other e f = absurd (f refl)
