-- Narrower ranges give narrower results.
use Rattle.std.proofs.Common.{◌≡◌, inl, inr, Bool, true, false, cond, List, [], ◌∷◌, refl, sym, subst, arith}
use Rattle.std.specs.Prelude.{ℤ, pos, ◌*ℤ◌, ◌≤ℤ◌, int_lt, int_le}
use Rattle.std.specs.Ordering.{int_eq}
use Rattle.std.specs.Int.{int_min, int_max}
use Rattle.std.proofs.lemmas.Int.{ints, clamps}
use Rattle.std.proofs.lemmas.Bool.Decides.{Decides-int_eq}
use Rattle.std.proofs.lemmas.Bool.{or_cases, or_left, or_right, and_from, true_from_ne_false, and_parts}
use Rattle.qc_model.specs.Lists.{Among}
use Rattle.qc_model.specs.Domains.{Values}
use Rattle.qc_model.specs.Ranges.{Range, range_of, range_from, range_of_list, point, is_point, ranges_miss, range_sum, product, absolute, absolute_range, smaller_range, greater_range}
use Rattle.qc_model.specs.Left.{Lefts, left_at, lefts_at, range_at, span, sum_range, sum_at}
use Rattle.qc_model.specs.Arguments.{numbers}
use Rattle.qc_model.proofs.Sound.{InRange}
use Rattle.model_table.proofs.Products.{times_in, corners}
use Rattle.model_table.proofs.Sums.{same_number}
use Rattle.model_table.proofs.Parts.{IsPart, AreParts, Parts, part_at, parts_at, same_numbers, span_low, span_high, span_order}

-- a range within another
pub record Within (a b : Range) : Type 0 where
  pub low : b.from ≤ℤ a.from
  pub high : a.to ≤ℤ b.to

-- and it has a number
pub record Inside (a b : Range) : Type 0 where
  pub low : b.from ≤ℤ a.from
  pub high : a.to ≤ℤ b.to
  pub order : a.from ≤ℤ a.to

pub within : (a b : Range) → Inside a b → Within a b
within a b i = record { low = i.low; high = i.high }

pub span_inside : (d e : Values) → IsPart d e → Inside (span d) (span e)
span_inside d e p = record { low = span_low d e p; high = span_high d e p; order = span_order d e p }

pub range_inside : (ds es : Lefts) → Parts ds es → (k : _) → Inside (range_at ds k) (range_at es k)
range_inside ds es p k = span_inside (left_at ds k) (left_at es k) (part_at ds es k p)

pub from_inside : (a b : Range) → Inside a b → InRange a.from b
from_inside a b i = record { low = i.low; high = omega (arith, ints, i.high, i.order) }

pub to_inside : (a b : Range) → Inside a b → InRange a.to b
to_inside a b i = record { low = omega (arith, ints, i.low, i.order); high = i.high }

-- narrower ranges miss each other where the wider do
pub still_miss : (a b c d : Range) → Within a b → Within c d → ranges_miss b d ≡ true → ranges_miss a c ≡ true
still_miss a b c d i j e =
    elim (or_cases (int_lt b.to d.from) (int_lt d.to b.from) e) [
      | inl q ↦ or_left (int_lt a.to c.from) (int_lt c.to a.from) (true_from_ne_false (int_lt a.to c.from) (λ n. omega (arith, ints, i.high, j.low)))
      | inr q ↦ or_right (int_lt a.to c.from) (int_lt c.to a.from) (true_from_ne_false (int_lt c.to a.from) (λ n. omega (arith, ints, i.low, j.high)))
    ]

pub still_point : (n : ℤ) (a b : Range) → Inside a b → is_point n b ≡ true → is_point n a ≡ true
still_point n a b i e =
    let p = and_parts (int_eq b.from n) (int_eq b.to n) e in
    let f = same_number b.from n p.0 in
    let t = same_number b.to n p.1 in
    and_from (int_eq a.from n) (int_eq a.to n) ((Decides-int_eq a.from n).1 (omega (arith, ints, i.low, i.high, i.order))) ((Decides-int_eq a.to n).1 (omega (arith, ints, i.low, i.high, i.order)))

pub sum_inside : (a b c d : Range) → Inside a b → Inside c d → Inside (range_sum a c) (range_sum b d)
sum_inside a b c d i j = record { low = omega (arith, ints, i.low, j.low); high = omega (arith, ints, i.high, j.high); order = omega (arith, ints, i.order, j.order) }

pub smaller_within : (a b c d : Range) → Within a b → Within c d → Within (smaller_range a c) (smaller_range b d)
smaller_within a b c d i j = record { low = omega (arith, ints, clamps, i.low, j.low); high = omega (arith, ints, clamps, i.high, j.high) }

pub greater_within : (a b c d : Range) → Within a b → Within c d → Within (greater_range a c) (greater_range b d)
greater_within a b c d i j = record { low = omega (arith, ints, clamps, i.low, j.low); high = omega (arith, ints, clamps, i.high, j.high) }

-- the least range of numbers within a range is within it
pub hull_inside : (n : ℤ) (ns : List ℤ) (r : Range) → ((m : ℤ) → Among m (n ∷ ns) → InRange m r) → Inside (range_of_list (n ∷ ns)) r
hull_inside n [] r f = let i = f n (inl refl) in record { low = i.low; high = i.high; order = omega (arith, ints) }
hull_inside n (m ∷ ms) r f = joined (range_from m ms) (hull_inside m ms r (λ k h. f k (inr h))) (f n (inl refl))
  where
    joined : (a : Range) → Inside a r → InRange n r → Inside (range_of (int_min n a.from) (int_max n a.to)) r
    joined a j i = record { low = omega (arith, ints, clamps, i.low, j.low); high = omega (arith, ints, clamps, i.high, j.high); order = omega (arith, ints, clamps, j.order) }

pub product_inside : (a b c d : Range) → Inside a b → Inside c d → Inside (product a c) (product b d)
product_inside a b c d i j =
    hull_inside (a.from *ℤ c.from) ((a.from *ℤ c.to) ∷ (a.to *ℤ c.from) ∷ (a.to *ℤ c.to) ∷ []) (product b d) each
  where
    f : InRange a.from b
    f = from_inside a b i

    t : InRange a.to b
    t = to_inside a b i

    g : InRange c.from d
    g = from_inside c d j

    u : InRange c.to d
    u = to_inside c d j

    corner : (x y m : ℤ) → InRange x b → InRange y d → m ≡ x *ℤ y → InRange m (product b d)
    corner x y m p q e = subst (λ (z : ℤ). InRange z (product b d)) (sym e) (times_in x y b d p q)

    each : (m : ℤ) → Among m (corners a c) → InRange m (product b d)
    each m (inl e) = corner a.from c.from m f g e
    each m (inr (inl e)) = corner a.from c.to m f u e
    each m (inr (inr (inl e))) = corner a.to c.from m t g e
    each m (inr (inr (inr (inl e)))) = corner a.to c.to m t u e
    each m (inr (inr (inr (inr h)))) = absurd h

point_inside : (n : ℤ) → Inside (point n) (point n)
point_inside n = record { low = omega (arith, ints); high = omega (arith, ints); order = omega (arith, ints) }

sums_inside : (ns : List ℤ) (ds es : List Values) → AreParts ds es → Inside (sum_range ns ds) (sum_range ns es)
sums_inside [] ds es p = point_inside (pos 0)
sums_inside (n ∷ ns) [] [] p = point_inside (pos 0)
sums_inside (n ∷ ns) [] (e ∷ es) p = absurd p
sums_inside (n ∷ ns) (d ∷ ds) [] p = absurd p
sums_inside (n ∷ ns) (d ∷ ds) (e ∷ es) p =
    sum_inside (product (point n) (span d)) (product (point n) (span e)) (sum_range ns ds) (sum_range ns es)
    (product_inside (point n) (point n) (span d) (span e) (point_inside n) (span_inside d e p.0)) (sums_inside ns ds es p.1)

pub given_sums_inside : (ds es : Lefts) → Parts ds es → Inside (sum_at ds) (sum_at es)
given_sums_inside ds es p =
    subst (λ (ns : List ℤ). Inside (sum_range ns (lefts_at ds 1)) (sum_at es)) (sym (same_numbers ds es 0 p))
    (sums_inside (numbers es 0) (lefts_at ds 1) (lefts_at es 1) (parts_at ds es 1 p))

-- the range of the absolute value, by whether its member's range is at least 0 and at most 0
abbrev absolute_by : Bool → Bool → Range → Range
absolute_by p q a = cond p a (cond q (range_of (absolute a.to) (absolute a.from)) (range_of (pos 0) (int_max (absolute a.from) a.to)))

pub absolute_within : (a b : Range) → Inside a b → Within (absolute_range a) (absolute_range b)
absolute_within a b i = by (int_le (pos 0) a.from) refl (int_le a.to (pos 0)) refl (int_le (pos 0) b.from) refl (int_le b.to (pos 0)) refl
  where
    by : (p : Bool) → int_le (pos 0) a.from ≡ p → (q : Bool) → int_le a.to (pos 0) ≡ q → (s : Bool) → int_le (pos 0) b.from ≡ s → (t : Bool) → int_le b.to (pos 0) ≡ t → Within (absolute_by p q a) (absolute_by s t b)
    by true p q u true s t v = record { low = i.low; high = i.high }
    by true p q u false s true v = record { low = omega (arith, ints, i.low, i.high, i.order); high = omega (arith, ints, i.low, i.high, i.order) }
    by true p q u false s false v = record { low = omega (arith, ints, i.low, i.high, i.order); high = omega (arith, ints, clamps, i.low, i.high, i.order) }
    by false p true u true s t v = absurd (omega (arith, ints, i.low, i.high, i.order))
    by false p true u false s true v = record { low = omega (arith, ints, i.low, i.high, i.order); high = omega (arith, ints, i.low, i.high, i.order) }
    by false p true u false s false v = record { low = omega (arith, ints, i.low, i.high, i.order); high = omega (arith, ints, clamps, i.low, i.high, i.order) }
    by false p false u true s t v = absurd (omega (arith, ints, i.low, i.high, i.order))
    by false p false u false s true v = absurd (omega (arith, ints, i.low, i.high, i.order))
    by false p false u false s false v = record { low = omega (arith, ints); high = omega (arith, ints, clamps, i.low, i.high, i.order) }
