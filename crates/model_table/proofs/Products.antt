-- A product of members lies between the products of ends, in any order of signs.
use Rattle.std.proofs.Common.{◌⊎◌, inl, inr, zero, suc, ◌*◌, ◌≤◌, List, [], ◌∷◌, refl, sym, subst, arith, mul-le-mul_right}
use Rattle.std.specs.Prelude.{ℤ, pos, negsuc, ◌≤ℤ◌, ◌*ℤ◌}
use Rattle.std.specs.Int.{int_min, int_max}
use Rattle.std.proofs.Math.IntN.{*ℤ_comm, *ℤ-zero}
use Rattle.std.proofs.lemmas.Int.{ints, clamps}
use Rattle.qc_model.specs.Lists.{Among}
use Rattle.qc_model.specs.Ranges.{Range, range_of, range_from, range_of_list, product}
use Rattle.qc_model.proofs.Sound.{InRange}

mul_up : (x y z : ℤ) → x ≤ℤ y → pos 0 ≤ℤ z → (x *ℤ z) ≤ℤ (y *ℤ z)
mul_up (pos a) (pos b) (pos n) h k = let m : a * n ≤ b * n = mul-le-mul_right n (omega (arith, ints)) in omega (arith, ints)
mul_up (pos a) (negsuc b) (pos n) h k = absurd (omega (arith, ints))
mul_up (negsuc a) (pos b) (pos n) h k = omega (arith, ints)
mul_up (negsuc a) (negsuc b) (pos n) h k = let m : suc b * n ≤ suc a * n = mul-le-mul_right n (omega (arith, ints)) in omega (arith, ints)
mul_up x y (negsuc n) h k = absurd (omega (arith, ints))

mul_down : (x y z : ℤ) → x ≤ℤ y → z ≤ℤ pos 0 → (y *ℤ z) ≤ℤ (x *ℤ z)
mul_down (pos a) (pos b) (negsuc n) h k = let m : a * suc n ≤ b * suc n = mul-le-mul_right (suc n) (omega (arith, ints)) in omega (arith, ints)
mul_down (pos a) (negsuc b) (negsuc n) h k = absurd (omega (arith, ints))
mul_down (negsuc a) (pos b) (negsuc n) h k = omega (arith, ints)
mul_down (negsuc a) (negsuc b) (negsuc n) h k = let m : suc b * suc n ≤ suc a * suc n = mul-le-mul_right (suc n) (omega (arith, ints)) in omega (arith, ints)
mul_down x y (pos zero) h k = omega (arith, ints, *ℤ-zero x, *ℤ-zero y)
mul_down x y (pos (suc n)) h k = absurd (omega (arith, ints))

-- n lies between the two, in either order
abbrev pub Between : ℤ → ℤ → ℤ → Type 0
Between n p q = ((p ≤ℤ n) × (n ≤ℤ q)) ⊎ ((q ≤ℤ n) × (n ≤ℤ p))

pub between_in : (n p q : ℤ) (r : Range) → InRange p r → InRange q r → Between n p q → InRange n r
between_in n p q r h k (inl b) = record { low = omega (arith, ints, h.low, b.0); high = omega (arith, ints, k.high, b.1) }
between_in n p q r h k (inr b) = record { low = omega (arith, ints, k.low, b.0); high = omega (arith, ints, h.high, b.1) }

either_sign : (z : ℤ) → (pos 0 ≤ℤ z) ⊎ (z ≤ℤ pos 0)
either_sign (pos n) = inl (omega (arith, ints))
either_sign (negsuc n) = inr (omega (arith, ints))

between_right : (u v : ℤ) (a : Range) → InRange u a → Between (u *ℤ v) (a.from *ℤ v) (a.to *ℤ v)
between_right u v a h =
    elim (either_sign v) [
      | inl p ↦ inl (mul_up a.from u v h.low p, mul_up u a.to v h.high p)
      | inr p ↦ inr (mul_down u a.to v h.high p, mul_down a.from u v h.low p)
    ]

between_left : (u v : ℤ) (b : Range) → InRange v b → Between (u *ℤ v) (u *ℤ b.from) (u *ℤ b.to)
between_left u v b h = subst (λ (n : ℤ). Between n (u *ℤ b.from) (u *ℤ b.to)) (*ℤ_comm v u) (subst (λ (n : ℤ). Between (v *ℤ u) n (u *ℤ b.to)) (*ℤ_comm b.from u) (subst (λ (n : ℤ). Between (v *ℤ u) (b.from *ℤ u) n) (*ℤ_comm b.to u) (between_right v u b h)))

-- the least range of a list holds each of it
in_range_from : (n : ℤ) (ns : List ℤ) → InRange n (range_from n ns)
in_range_from n [] = record { low = omega (arith, ints); high = omega (arith, ints) }
in_range_from n (m ∷ ms) = record { low = omega (arith, ints, clamps); high = omega (arith, ints, clamps) }

among_range_from : (n m : ℤ) (ns : List ℤ) → Among m ns → InRange m (range_from n ns)
among_range_from n m [] h = absurd h
among_range_from n m (k ∷ ns) h = wider (range_from k ns) (elim h [ inl e ↦ subst (λ (x : ℤ). InRange x (range_from k ns)) (sym e) (in_range_from k ns) | inr t ↦ among_range_from k m ns t ])
  where
    wider : (r : Range) → InRange m r → InRange m (range_of (int_min n r.from) (int_max n r.to))
    wider r i = record { low = omega (arith, ints, clamps, i.low); high = omega (arith, ints, clamps, i.high) }

pub in_hull : (m : ℤ) (ns : List ℤ) → Among m ns → InRange m (range_of_list ns)
in_hull m [] h = absurd h
in_hull m (n ∷ ns) (inl e) = subst (λ (x : ℤ). InRange x (range_from n ns)) (sym e) (in_range_from n ns)
in_hull m (n ∷ ns) (inr t) = among_range_from n m ns t

abbrev pub corners : Range → Range → List ℤ
corners a b = (a.from *ℤ b.from) ∷ (a.from *ℤ b.to) ∷ (a.to *ℤ b.from) ∷ (a.to *ℤ b.to) ∷ []

pub times_in : (u v : ℤ) (a b : Range) → InRange u a → InRange v b → InRange (u *ℤ v) (product a b)
times_in u v a b h k =
    between_in (u *ℤ v) (a.from *ℤ v) (a.to *ℤ v) (product a b)
    (between_in (a.from *ℤ v) (a.from *ℤ b.from) (a.from *ℤ b.to) (product a b)
    (in_hull (a.from *ℤ b.from) (corners a b) (inl refl)) (in_hull (a.from *ℤ b.to) (corners a b) (inr (inl refl)))
    (between_left a.from v b k))
    (between_in (a.to *ℤ v) (a.to *ℤ b.from) (a.to *ℤ b.to) (product a b)
    (in_hull (a.to *ℤ b.from) (corners a b) (inr (inr (inl refl)))) (in_hull (a.to *ℤ b.to) (corners a b) (inr (inr (inr (inl refl)))))
    (between_left a.to v b k))
    (between_right u v a h)
