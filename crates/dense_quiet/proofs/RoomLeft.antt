-- The room of a sum, as the code counts it.
use Rattle.std.proofs.Common.{◌≡◌, ◌∙◌, ◌+◌, ◌≤◌, ◌^◌, sym, ap, subst, arith, ℤ}
use Rattle.std.specs.Prelude.{pos, ◌+ℤ◌, ◌-ℤ◌, ◌≤ℤ◌, ◌<ℤ◌, unsigned_abs}
use Rattle.std.proofs.lemmas.Int.{ints, to_z-of_z, fits_signed_from_abs}
use mir.Val.{SFits, to_z, of_z}
use mir.Syntax.{w64, w128}
use Rattle.qc_refuter.proofs.Listed.{same_most}
use Rattle.dense_quiet.specs.Slack.{most_room}
use Rattle.dense_quiet.proofs.RoomSteps.{passed, passed_is}
use Rattle.dense_quiet.proofs.Sums.{room_left, room_tight}

-- a number as it is passed on in 128 bits
abbrev wide : ℤ → ℤ
wide z = to_z w128 (of_z w128 z)

bound_small : (z : ℤ) → SFits w64 z → unsigned_abs z ≤ 2 ^ 63
bound_small z f = omega (arith, ints)

bound_wide : (z : ℤ) → SFits w64 z → SFits w128 z
bound_wide z f = fits_signed_from_abs w128 z (omega (arith, bound_small z f))

end_wide : (z : ℤ) → unsigned_abs z ≤ 10 ^ 21 → SFits w128 z
end_wide z h = fits_signed_from_abs w128 z (omega (arith, h))

-- the difference of two numbers
abs_gap : (p q : ℤ) → unsigned_abs (p -ℤ q) ≤ unsigned_abs p + unsigned_abs q
abs_gap p q = grind (arith, ints)

gap_fits : (p q : ℤ) → SFits w64 p → unsigned_abs q ≤ 10 ^ 21 → SFits w128 (p -ℤ q)
gap_fits p q f h = fits_signed_from_abs w128 (p -ℤ q) (omega (arith, abs_gap p q, bound_small p f, h))

gap_fits_back : (p q : ℤ) → SFits w64 p → unsigned_abs q ≤ 10 ^ 21 → SFits w128 (q -ℤ p)
gap_fits_back p q f h = fits_signed_from_abs w128 (q -ℤ p) (omega (arith, abs_gap q p, bound_small p f, h))

bound_is : (z : ℤ) → SFits w64 z → wide (passed z) ≡ z
bound_is z f = ap wide (passed_is z f) ∙ to_z-of_z w128 z (bound_wide z f)

end_is : (z : ℤ) → unsigned_abs z ≤ 10 ^ 21 → wide z ≡ z
end_is z h = to_z-of_z w128 z (end_wide z h)

-- from an end up to the bound, and from the bound up to an end
under_is : (bound from : ℤ) → SFits w64 bound → unsigned_abs from ≤ 10 ^ 21 → wide (wide (passed bound) -ℤ wide from) ≡ (bound -ℤ from)
under_is bound from f h =
    ap (λ z. wide (z -ℤ wide from)) (bound_is bound f)
    ∙ (ap (λ z. wide (bound -ℤ z)) (end_is from h) ∙ to_z-of_z w128 (bound -ℤ from) (gap_fits bound from f h))

over_is : (bound to : ℤ) → SFits w64 bound → unsigned_abs to ≤ 10 ^ 21 → wide (wide to -ℤ wide (passed bound)) ≡ (to -ℤ bound)
over_is bound to f h =
    ap (λ z. wide (z -ℤ wide (passed bound))) (end_is to h)
    ∙ (ap (λ z. wide (to -ℤ z)) (bound_is bound f) ∙ to_z-of_z w128 (to -ℤ bound) (gap_fits_back bound to f h))

-- what is told of a difference, as it is passed on
fits_within : (low high u gap : ℤ) → SFits w64 u → gap ≡ (high -ℤ low) → (pos 0 ≤ℤ u → u ≤ℤ gap) → pos 0 ≤ℤ passed u → (low +ℤ passed u) ≤ℤ high
fits_within low high u gap f e h z =
    subst (λ w. (low +ℤ w) ≤ℤ high) (sym (passed_is u f))
    (room_left low high u u (λ s. subst (λ g. u ≤ℤ g) e (h s)) (same_most u) (subst (λ w. pos 0 ≤ℤ w) (passed_is u f) z))

tight_within : (low high u gap : ℤ) → SFits w64 u → gap ≡ (high -ℤ low) → (u <ℤ most_room → gap ≤ℤ u) → passed u <ℤ most_room → high ≤ℤ (low +ℤ passed u)
tight_within low high u gap f e h l =
    subst (λ w. high ≤ℤ (low +ℤ w)) (sym (passed_is u f))
    (room_tight low high u (subst (λ g. g ≤ℤ u) e (h (subst (λ w. w <ℤ most_room) (passed_is u f) l))))

module _ (bound at u : ℤ) (f : SFits w64 bound) (h : unsigned_abs at ≤ 10 ^ 21) (g : SFits w64 u) where
  pub room_under : (pos 0 ≤ℤ u → u ≤ℤ wide (wide (passed bound) -ℤ wide at)) → pos 0 ≤ℤ passed u → (at +ℤ passed u) ≤ℤ bound
  room_under = fits_within at bound u _ g (under_is bound at f h)

  pub room_over : (pos 0 ≤ℤ u → u ≤ℤ wide (wide at -ℤ wide (passed bound))) → pos 0 ≤ℤ passed u → (bound +ℤ passed u) ≤ℤ at
  room_over = fits_within bound at u _ g (over_is bound at f h)

  pub tight_under : (u <ℤ most_room → wide (wide (passed bound) -ℤ wide at) ≤ℤ u) → passed u <ℤ most_room → bound ≤ℤ (at +ℤ passed u)
  tight_under = tight_within at bound u _ g (under_is bound at f h)

  pub tight_over : (u <ℤ most_room → wide (wide at -ℤ wide (passed bound)) ≤ℤ u) → passed u <ℤ most_room → at ≤ℤ (bound +ℤ passed u)
  tight_over = tight_within bound at u _ g (over_is bound at f h)
