-- Products whose second factor moves.
use Rattle.std.proofs.Common.{◌≡◌, ap, ◌∙◌, arith, ℤ}
use Rattle.std.specs.Prelude.{◌+ℤ◌, ◌-ℤ◌, ◌*ℤ◌}
use Rattle.std.proofs.Math.IntN.{*ℤ_comm}
use Rattle.std.proofs.lemmas.Int.{ints}
use Rattle.check_assignment.proofs.TermSums.{plus_times}

-- as the second factor goes from v to u
pub times_moved : (f u v : ℤ) → f *ℤ u ≡ (f *ℤ v) +ℤ (f *ℤ (u -ℤ v))
times_moved f u v =
    *ℤ_comm f u ∙ (ap (λ z. z *ℤ f) (reached u v) ∙ (plus_times v (u -ℤ v) f ∙ (ap (λ z. z +ℤ ((u -ℤ v) *ℤ f)) (*ℤ_comm v f) ∙ ap (λ z. (f *ℤ v) +ℤ z) (*ℤ_comm (u -ℤ v) f))))
  where
    reached : (u v : ℤ) → u ≡ v +ℤ (u -ℤ v)
    reached u v = omega (arith, ints)
