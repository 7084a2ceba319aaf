-- Narrower ranges give narrower quotients and remainders.
use Rattle.std.proofs.Common.{◌≡◌, inl, inr, Bool, true, false, ◌&&◌, ◌||◌, cond, List, [], ◌∷◌, ◌++◌, flat_map, refl, sym, ◌∙◌, subst, arith}
use Rattle.std.specs.Prelude.{ℤ, pos, negsuc, ◌-ℤ◌, ◌≤ℤ◌, int_lt, int_le, int_div, int_rem}
use Rattle.std.specs.Ordering.{int_eq}
use Rattle.std.specs.Int.{int_min, int_max}
use Rattle.std.proofs.lemmas.Int.{ints, clamps}
use Rattle.std.proofs.lemmas.Bool.Decides.{Decides-int_eq}
use Rattle.std.proofs.lemmas.Bool.{or_cases, or_left, or_right, and_from, and_parts}
use Rattle.qc_model.specs.Lists.{Among}
use Rattle.qc_model.specs.Ranges.{Range, range_of_list, point, ranges_miss, negative_ends, positive_ends, quotient_range, greatest_remainder, is_single_range, remainder_range}
use Rattle.qc_model.specs.Left.{is_zero_range}
use Rattle.qc_model.proofs.Sound.{InRange, differ}
use Rattle.qc_model.proofs.Moves.{among_either, of_flat_map}
use Rattle.model_table.proofs.Sums.{same_number}
use Rattle.model_table.proofs.Quotients.{quotient_in, divisor_ends, quotients_by}
use Rattle.model_table.proofs.Remainders.{wide_ends, remainder_in}
use Rattle.model_table.proofs.Inside.{Within, Inside, from_inside, to_inside, hull_inside, still_miss, still_point, within}

-- an end of the divisor is in its range, and isn't 0
pub record IsDivisor (d : ℤ) (b : Range) : Type 0 where
  pub member : InRange d b
  pub not_zero : d ≡ pos 0 → ⊥

pub ends_divide : (d : ℤ) (b : Range) → b.from ≤ℤ b.to → Among d (divisor_ends b) → IsDivisor d b
ends_divide d b o h = elim (among_either d (negative_ends b) (positive_ends b) h) [
  | inl m ↦ negative (int_lt b.from (pos 0)) refl m
  | inr m ↦ positive (int_lt (pos 0) b.to) refl m
]
  where
    negative : (t : Bool) → int_lt b.from (pos 0) ≡ t → Among d (cond t (b.from ∷ int_min b.to (negsuc 0) ∷ []) []) → IsDivisor d b
    negative true e (inl q) = record { member = record { low = omega (arith, ints); high = omega (arith, ints) }; not_zero = λ z. omega (arith, ints) }
    negative true e (inr (inl q)) = record { member = record { low = omega (arith, ints, clamps); high = omega (arith, ints, clamps) }; not_zero = λ z. omega (arith, ints, clamps) }
    negative true e (inr (inr m)) = absurd m
    negative false e m = absurd m

    positive : (t : Bool) → int_lt (pos 0) b.to ≡ t → Among d (cond t (int_max b.from (pos 1) ∷ b.to ∷ []) []) → IsDivisor d b
    positive true e (inl q) = record { member = record { low = omega (arith, ints, clamps); high = omega (arith, ints, clamps) }; not_zero = λ z. omega (arith, ints, clamps) }
    positive true e (inr (inl q)) = record { member = record { low = omega (arith, ints); high = omega (arith, ints) }; not_zero = λ z. omega (arith, ints) }
    positive true e (inr (inr m)) = absurd m
    positive false e m = absurd m

-- a range without such an end has 0 alone
pub no_divisor : (b : Range) → b.from ≤ℤ b.to → divisor_ends b ≡ [] → is_zero_range b ≡ true
no_divisor b o e = by (int_lt b.from (pos 0)) refl (int_lt (pos 0) b.to) refl e
  where
    nothing : (x : ℤ) (xs : List ℤ) → x ∷ xs ≡ [] → ⊥
    nothing x xs e = cc

    by : (s : Bool) → int_lt b.from (pos 0) ≡ s → (t : Bool) → int_lt (pos 0) b.to ≡ t → cond s (b.from ∷ int_min b.to (negsuc 0) ∷ []) [] ++ cond t (int_max b.from (pos 1) ∷ b.to ∷ []) [] ≡ [] → is_zero_range b ≡ true
    by true p t q e = absurd (nothing b.from _ e)
    by false p true q e = absurd (nothing (int_max b.from (pos 1)) _ e)
    by false p false q e = and_from (int_eq b.from (pos 0)) (int_eq b.to (pos 0)) ((Decides-int_eq b.from (pos 0)).1 (omega (arith, ints))) ((Decides-int_eq b.to (pos 0)).1 (omega (arith, ints)))

pub quotient_inside : (a b c d : Range) → Inside a b → Inside c d → (is_zero_range c ≡ true → ⊥) → Inside (quotient_range a c) (quotient_range b d)
quotient_inside a b c d i j z = by (divisor_ends c) refl
  where
    each : (m : ℤ) → Among m (flat_map (quotients_by a) (divisor_ends c)) → InRange m (quotient_range b d)
    each m h =
        let r = of_flat_map (quotients_by a) m (divisor_ends c) h in
        let k = ends_divide r.0 c j.order r.1 in
        let l : InRange r.0 d = record { low = omega (arith, ints, k.member.low, j.low); high = omega (arith, ints, k.member.high, j.high) } in
        elim r.2 [
          | inl e ↦ subst (λ (x : ℤ). InRange x (quotient_range b d)) (sym e) (quotient_in a.from r.0 b d k.not_zero (from_inside a b i) l)
          | inr n ↦ elim n [
            | inl e ↦ subst (λ (x : ℤ). InRange x (quotient_range b d)) (sym e) (quotient_in a.to r.0 b d k.not_zero (to_inside a b i) l)
            | inr n ↦ absurd n
          ]
        ]

    by : (ds : List ℤ) → divisor_ends c ≡ ds → Inside (quotient_range a c) (quotient_range b d)
    by [] e = absurd (z (no_divisor c j.order e))
    by (x ∷ ds) e =
        subst (λ (xs : List ℤ). Inside (range_of_list (flat_map (quotients_by a) xs)) (quotient_range b d)) (sym e)
        (hull_inside (int_div a.from x) (int_div a.to x ∷ flat_map (quotients_by a) ds) (quotient_range b d) (λ m h. each m (subst (λ (xs : List ℤ). Among m (flat_map (quotients_by a) xs)) (sym e) h)))

-- the greatest remainder by a narrower divisor is no greater; some divisor isn't 0
remainder_at_most : (c d : Range) → Inside c d → greatest_remainder c ≤ℤ greatest_remainder d
remainder_at_most c d j = omega (arith, ints, clamps, j.low, j.high, j.order)

remainder_from_zero : (c d : Range) → Inside c d → (is_zero_range c ≡ true → ⊥) → pos 0 ≤ℤ greatest_remainder d
remainder_from_zero c d j z = by (int_eq c.from (pos 0)) refl (int_eq c.to (pos 0)) refl
  where
    apart : (x : ℤ) → int_eq x (pos 0) ≡ false → x ≡ pos 0 → ⊥
    apart x e q = differ (sym e ∙ (Decides-int_eq x (pos 0)).1 q)

    by : (s : Bool) → int_eq c.from (pos 0) ≡ s → (t : Bool) → int_eq c.to (pos 0) ≡ t → pos 0 ≤ℤ greatest_remainder d
    by true p true q = absurd (z (and_from (int_eq c.from (pos 0)) (int_eq c.to (pos 0)) p q))
    by true p false q = let n = apart c.to q in omega (arith, ints, clamps, j.low, j.high, j.order)
    by false p t q = let n = apart c.from p in omega (arith, ints, clamps, j.low, j.high, j.order)

-- the same ends, for ranges that aren't and_parts one number
wide_within : (a b : Range) (m n : ℤ) → Inside a b → m ≤ℤ n → pos 0 ≤ℤ n → Within (wide_ends a m) (wide_ends b n)
wide_within a b m n i l z = record {
  low = low (int_le (pos 0) a.from) refl (int_le (pos 0) b.from) refl;
  high = high (int_le a.to (pos 0)) refl (int_le b.to (pos 0)) refl;
}
  where
    low : (s : Bool) → int_le (pos 0) a.from ≡ s → (t : Bool) → int_le (pos 0) b.from ≡ t → cond t (pos 0) (int_max b.from (pos 0 -ℤ n)) ≤ℤ cond s (pos 0) (int_max a.from (pos 0 -ℤ m))
    low true p true q = omega (arith, ints)
    low true p false q = omega (arith, ints, clamps)
    low false p true q = absurd (omega (arith, ints, i.low))
    low false p false q = omega (arith, ints, clamps, i.low)

    high : (s : Bool) → int_le a.to (pos 0) ≡ s → (t : Bool) → int_le b.to (pos 0) ≡ t → cond s (pos 0) (int_min a.to m) ≤ℤ cond t (pos 0) (int_min b.to n)
    high true p true q = omega (arith, ints)
    high true p false q = omega (arith, ints, clamps)
    high false p true q = absurd (omega (arith, ints, i.high))
    high false p false q = omega (arith, ints, clamps, i.high)

narrow_single : (a b : Range) → Inside a b → is_single_range b ≡ true → is_single_range a ≡ true
narrow_single a b i e = let q = same_number b.from b.to e in (Decides-int_eq a.from a.to).1 (omega (arith, ints, i.low, i.high, i.order))

pub remainder_within : (a b c d : Range) → Inside a b → Inside c d → (is_zero_range c ≡ true → ⊥) → Within (remainder_range a c) (remainder_range b d)
remainder_within a b c d i j z = by (is_single_range a && is_single_range c) refl (is_single_range b && is_single_range d) refl
  where
    lone : is_single_range c ≡ true → c.from ≡ pos 0 → ⊥
    lone s e = z (and_from (int_eq c.from (pos 0)) (int_eq c.to (pos 0)) ((Decides-int_eq c.from (pos 0)).1 e) ((Decides-int_eq c.to (pos 0)).1 (sym (same_number c.from c.to s) ∙ e)))

    around : (x : ℤ) (r : Range) → InRange x r → Within (point x) r
    around x r k = record { low = k.low; high = k.high }

    narrow : (is_single_range b && is_single_range d) ≡ true → (is_single_range a && is_single_range c) ≡ true
    narrow e =
        let p = and_parts (is_single_range b) (is_single_range d) e in
        and_from (is_single_range a) (is_single_range c) (narrow_single a b i p.0) (narrow_single c d j p.1)

    by : (s : Bool) → (is_single_range a && is_single_range c) ≡ s → (t : Bool) → (is_single_range b && is_single_range d) ≡ t → Within (cond s (point (int_rem a.from c.from)) (wide_ends a (greatest_remainder c))) (remainder_range b d)
    by true p t q =
        around (int_rem a.from c.from) (remainder_range b d)
        (remainder_in a.from c.from b d (lone (and_parts (is_single_range a) (is_single_range c) p).1) (from_inside a b i) (from_inside c d j))
    by false p true q = absurd (differ (sym p ∙ narrow q))
    by false p false q =
        subst (λ (s : Bool). Within (wide_ends a (greatest_remainder c)) (cond s (point (int_rem b.from d.from)) (wide_ends b (greatest_remainder d)))) (sym q)
        (wide_within a b (greatest_remainder c) (greatest_remainder d) i (remainder_at_most c d j) (remainder_from_zero c d j z))

-- refuted by a narrower divisor too
module _ (range : Range → Range → Range) (narrows : (a b c d : Range) → Inside a b → Inside c d → (is_zero_range c ≡ true → ⊥) → Within (range a c) (range b d)) where
  pub still_divided : (a b c d r s : Range) → Inside a b → Inside c d → Inside r s → (is_zero_range d || ranges_miss (range b d) s) ≡ true → (is_zero_range c || ranges_miss (range a c) r) ≡ true
  still_divided a b c d r s i j k e = by (is_zero_range c) refl
    where
      by : (t : Bool) → is_zero_range c ≡ t → (is_zero_range c || ranges_miss (range a c) r) ≡ true
      by true q = or_left (is_zero_range c) (ranges_miss (range a c) r) q
      by false q =
          elim (or_cases (is_zero_range d) (ranges_miss (range b d) s) e) [
            | inl p ↦ or_left (is_zero_range c) (ranges_miss (range a c) r) (still_point (pos 0) c d j p)
            | inr p ↦ or_right (is_zero_range c) (ranges_miss (range a c) r) (still_miss (range a c) (range b d) r s (narrows a b c d i j (λ z. differ (sym q ∙ z))) (within r s k) p)
          ]
