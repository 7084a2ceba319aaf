-- Sums of few terms are small.
use Rattle.std.proofs.Common.{◌≡◌, ◌*◌, ◌^◌, ◌≤◌, true, List, [], ◌∷◌, length, arith, ℤ}
use Rattle.std.specs.Prelude.{◌*ℤ◌, unsigned_abs}
use Rattle.std.specs.Int.{int_max}
use Rattle.std.specs.List.{list_all}
use Rattle.std.proofs.lemmas.Int.{ints, clamps}
use Rattle.qc_model.specs.declared.problem.Arg.{Arg}
use Rattle.qc_model.specs.Domains.{Values, Box, least_value, greatest_value}
use Rattle.qc_model.specs.Refuted.{left_to}
use Rattle.qc_model.specs.Valid.{is_number}
use Rattle.qc_model.proofs.Readable.{first, second}
use Rattle.qc_refuter.specs.Met.{is_domain_left, is_open}
use Rattle.qc_refuter.proofs.Terms.{product_small, least_small, greatest_small, abs_sum}
use Rattle.prop_linear.specs.Tightening.{term_of}
use Rattle.prop_linear.specs.Sides.{greatest_sum}
use Rattle.prop_linear.proofs.Spread.{high_of}

term_small : (a : ℤ) (d : Values) → is_number a ≡ true → is_domain_left d ≡ true → unsigned_abs (term_of a d).to ≤ 10 ^ 18
term_small a d h o =
    one (a *ℤ least_value d) (a *ℤ greatest_value d) (term_of a d).to (high_of a (least_value d) (greatest_value d)) (product_small a (least_value d) h (least_small d o)) (product_small a (greatest_value d) h (greatest_small d o))
  where
    one : (p q t : ℤ) → t ≡ int_max p q → unsigned_abs p ≤ 10 ^ 18 → unsigned_abs q ≤ 10 ^ 18 → unsigned_abs t ≤ 10 ^ 18
    one p q t h k l = omega (arith, ints, clamps, h, k, l)

sum_small : (ns : List ℤ) (xs : List Arg) (box : Box) → list_all is_number ns ≡ true → list_all (is_open box) xs ≡ true → unsigned_abs (greatest_sum ns xs box) ≤ length xs * 10 ^ 18
sum_small [] xs box h o = omega arith
sum_small (n ∷ ns) [] box h o = omega arith
sum_small (n ∷ ns) (x ∷ xs) box h o =
    omega (arith, abs_sum (term_of n (left_to box x)).to (greatest_sum ns xs box), term_small n (left_to box x) (first (is_number n) (list_all is_number ns) h) (first (is_open box x) (list_all (is_open box) xs) o), sum_small ns xs box (second (is_number n) (list_all is_number ns) h) (second (is_open box x) (list_all (is_open box) xs) o))

pub greatest_sum_small : (ns : List ℤ) (xs : List Arg) (box : Box) → list_all is_number ns ≡ true → list_all (is_open box) xs ≡ true → length xs ≤ 1000 → unsigned_abs (greatest_sum ns xs box) ≤ 10 ^ 21
greatest_sum_small ns xs box h o f = omega (arith, sum_small ns xs box h o, f)
