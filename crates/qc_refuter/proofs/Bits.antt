-- A place in a list, counted from 1, as it is passed on.
use Rattle.std.proofs.Common.{◌≡◌, ap, ◌∙◌, of_z, w64, to_z, ℕ, ◌+◌, ◌<◌, arith}
use Rattle.std.specs.Prelude.{pos, ◌+ℤ◌}
use Rattle.std.proofs.lemmas.Int.{to_z-of_z, to_z_pos}

pub place_bits : (k : ℕ) → k + 1 < 9223372036854775808 → to_z w64 (of_z w64 (to_z w64 k +ℤ pos 1)) ≡ pos (k + 1)
place_bits k h = ap (λ z. to_z w64 (of_z w64 (z +ℤ pos 1))) (to_z_pos w64 k (omega (arith, h))) ∙ to_z-of_z w64 (pos (k + 1)) (omega (arith, h))
