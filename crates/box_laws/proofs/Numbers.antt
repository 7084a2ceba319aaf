-- Numbers as they are passed, and the ones next to them.
use Rattle.std.proofs.Common.{◌≡◌, ◌≤◌, true, sym, ap, ◌∙◌, subst, arith, ℤ, to_z, of_z, w64}
use Rattle.std.specs.Prelude.{unsigned_abs, pos, ◌+ℤ◌, ◌-ℤ◌}
use Rattle.std.proofs.lemmas.Int.{ints}
use Rattle.std.proofs.lemmas.Bool.Decides.{nat_tests}
use mir.Val.{SFits}
use Rattle.qc_model.specs.Valid.{is_number}

passed : (v : ℤ) → unsigned_abs v ≤ 2000000000 → to_z w64 (of_z w64 v) ≡ v
passed v h = omega (arith, ints)

pub passed_number : (v : ℤ) → is_number v ≡ true → to_z w64 (of_z w64 v) ≡ v
passed_number v e = passed v (small v e)
  where
    small : (v : ℤ) → is_number v ≡ true → unsigned_abs v ≤ 2000000000
    small v e = grind (arith, nat_tests)

pub passed_before : (v : ℤ) → is_number v ≡ true → to_z w64 (of_z w64 (to_z w64 (of_z w64 v) -ℤ pos 1)) ≡ (v -ℤ pos 1)
passed_before v e = ap (λ w. to_z w64 (of_z w64 (w -ℤ pos 1))) (passed_number v e) ∙ passed (v -ℤ pos 1) (small v e)
  where
    small : (v : ℤ) → is_number v ≡ true → unsigned_abs (v -ℤ pos 1) ≤ 2000000000
    small v e = grind (arith, nat_tests)

pub passed_after : (v : ℤ) → is_number v ≡ true → to_z w64 (of_z w64 (to_z w64 (of_z w64 v) +ℤ pos 1)) ≡ (v +ℤ pos 1)
passed_after v e = ap (λ w. to_z w64 (of_z w64 (w +ℤ pos 1))) (passed_number v e) ∙ passed (v +ℤ pos 1) (small v e)
  where
    small : (v : ℤ) → is_number v ≡ true → unsigned_abs (v +ℤ pos 1) ≤ 2000000000
    small v e = grind (arith, nat_tests)

pub fits_before : (v : ℤ) → is_number v ≡ true → SFits w64 (to_z w64 (of_z w64 v) -ℤ pos 1)
fits_before v e = subst (λ w. SFits w64 (w -ℤ pos 1)) (sym (passed_number v e)) (near v (small v e))
  where
    small : (v : ℤ) → is_number v ≡ true → unsigned_abs v ≤ 1000000000
    small v e = grind (arith, nat_tests)

    near : (v : ℤ) → unsigned_abs v ≤ 1000000000 → SFits w64 (v -ℤ pos 1)
    near v h = omega (arith, ints)

pub fits_after : (v : ℤ) → is_number v ≡ true → SFits w64 (to_z w64 (of_z w64 v) +ℤ pos 1)
fits_after v e = subst (λ w. SFits w64 (w +ℤ pos 1)) (sym (passed_number v e)) (near v (small v e))
  where
    small : (v : ℤ) → is_number v ≡ true → unsigned_abs v ≤ 1000000000
    small v e = grind (arith, nat_tests)

    near : (v : ℤ) → unsigned_abs v ≤ 1000000000 → SFits w64 (v +ℤ pos 1)
    near v h = omega (arith, ints)
