-- Numbers that are small enough to be computed with.
use Rattle.std.proofs.Common.{◌≡◌, ◌≤◌, ◌∙◌, true, sym, ap, subst, arith, ℤ, to_z, of_z, w64}
use Rattle.std.specs.Prelude.{pos, ◌+ℤ◌, ◌-ℤ◌, unsigned_abs}
use Rattle.std.proofs.lemmas.Int.{ints}
use Rattle.std.proofs.lemmas.Bool.Decides.{nat_tests}
use mir.Val.{SFits}
use Rattle.qc_model.specs.Valid.{is_number}

small : (v : ℤ) → is_number v ≡ true → unsigned_abs v ≤ 1000000000
small v e = grind (arith, nat_tests)

pub difference_fits : (v w : ℤ) → is_number v ≡ true → is_number w ≡ true → SFits w64 (v -ℤ w)
difference_fits v w e f = near v w (small v e) (small w f)
  where
    near : (v w : ℤ) → unsigned_abs v ≤ 1000000000 → unsigned_abs w ≤ 1000000000 → SFits w64 (v -ℤ w)
    near v w h k = omega (arith, ints)

pub before_fits : (v : ℤ) → is_number v ≡ true → SFits w64 (v -ℤ pos 1)
before_fits v e = near v (small v e)
  where
    near : (v : ℤ) → unsigned_abs v ≤ 1000000000 → SFits w64 (v -ℤ pos 1)
    near v h = omega (arith, ints)

pub after_fits : (v : ℤ) → is_number v ≡ true → SFits w64 (v +ℤ pos 1)
after_fits v e = near v (small v e)
  where
    near : (v : ℤ) → unsigned_abs v ≤ 1000000000 → SFits w64 (v +ℤ pos 1)
    near v h = omega (arith, ints)

-- numbers as they are passed on
passed : (v : ℤ) → unsigned_abs v ≤ 2000000000 → to_z w64 (of_z w64 v) ≡ v
passed v h = omega (arith, ints)

pub passed_number : (v : ℤ) → is_number v ≡ true → to_z w64 (of_z w64 v) ≡ v
passed_number v e = passed v (few v e)
  where
    few : (v : ℤ) → is_number v ≡ true → unsigned_abs v ≤ 2000000000
    few v e = grind (arith, nat_tests)

pub passed_after : (v : ℤ) → is_number v ≡ true → to_z w64 (of_z w64 (to_z w64 (of_z w64 v) +ℤ pos 1)) ≡ (v +ℤ pos 1)
passed_after v e = ap (λ w. to_z w64 (of_z w64 (w +ℤ pos 1))) (passed_number v e) ∙ passed (v +ℤ pos 1) (few v e)
  where
    few : (v : ℤ) → is_number v ≡ true → unsigned_abs (v +ℤ pos 1) ≤ 2000000000
    few v e = grind (arith, nat_tests)

pub passed_fits : (v : ℤ) → is_number v ≡ true → SFits w64 (to_z w64 (of_z w64 v) +ℤ pos 1)
passed_fits v e = subst (λ w. SFits w64 (w +ℤ pos 1)) (sym (passed_number v e)) (after_fits v e)
