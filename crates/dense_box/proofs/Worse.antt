-- Values that are worse than one.
use Rattle.std.proofs.Common.{◌≡◌, true, not, ℤ, arith}
use Rattle.std.specs.Prelude.{pos, negsuc, int_lt, ◌+ℤ◌, ◌-ℤ◌}
use Rattle.std.specs.List.{list_all}
use Rattle.std.proofs.lemmas.Int.{ints}
use Rattle.std.proofs.lemmas.Bool.Decides.{nat_tests}
use Rattle.qc_model.specs.Domains.{Values, is_within, values_outside}
use Rattle.qc_model.specs.Valid.{is_number}
use Rattle.qc_model.specs.declared.problem.Sense.TheVariants.{Min, Max}
use Rattle.dense_tree.specs.Steps.{no_worse}
use Rattle.box_laws.proofs.Filters.{filter_agree}

above : (v w : ℤ) → is_number w ≡ true → not (is_within (v +ℤ pos 1) (pos 1000000000) w) ≡ not (int_lt v w)
above v w n = grind (arith, nat_tests, ints)

below : (v w : ℤ) → is_number w ≡ true → not (is_within (negsuc 999999999) (v -ℤ pos 1) w) ≡ not (int_lt w v)
below v w n = grind (arith, nat_tests, ints)

-- where less is better those above it go, and where more is, those below
pub none_above : (v : ℤ) (vs : Values) → list_all is_number vs ≡ true → values_outside (v +ℤ pos 1) (pos 1000000000) vs ≡ no_worse Min v vs
none_above v vs n = filter_agree is_number (λ w. not (is_within (v +ℤ pos 1) (pos 1000000000) w)) (λ w. not (int_lt v w)) (above v) vs n

pub none_below : (v : ℤ) (vs : Values) → list_all is_number vs ≡ true → values_outside (negsuc 999999999) (v -ℤ pos 1) vs ≡ no_worse Max v vs
none_below v vs n = filter_agree is_number (λ w. not (is_within (negsuc 999999999) (v -ℤ pos 1) w)) (λ w. not (int_lt w v)) (below v) vs n
