-- Numbers as the machine passes them.
use Rattle.std.proofs.Common.{◌≡◌, ◌≤◌, true, arith, ℤ, w64, to_z, of_z}
use Rattle.std.specs.Prelude.{unsigned_abs}
use Rattle.std.proofs.lemmas.Int.{ints}
use Rattle.std.proofs.lemmas.Bool.Decides.{nat_tests}
use Rattle.qc_model.specs.Valid.{is_number}

pub passed : (v : ℤ) → is_number v ≡ true → to_z w64 (of_z w64 v) ≡ v
passed v e = same v (small v e)
  where
    small : (v : ℤ) → is_number v ≡ true → unsigned_abs v ≤ 1000000000
    small v e = grind (arith, nat_tests)

    same : (v : ℤ) → unsigned_abs v ≤ 1000000000 → to_z w64 (of_z w64 v) ≡ v
    same v h = omega (arith, ints)
