-- What the code computes by comparisons and by changes of sign, without the passage to bits and back.
use Rattle.std.proofs.Common.{◌≡◌, ◌∙◌, sym, ap, subst, ℤ, pos, ◌+ℤ◌, ◌-ℤ◌, neg_ℤ, ◌≤ℤ◌, ◌<ℤ◌, ◌≤◌, unsigned_abs, int_rem, arith, FitsSigned}
use Rattle.std.specs.Int.{int_min, int_max}
use Rattle.std.proofs.lemmas.Int.{ints, clamps, by_lt_z, to_z-of_z}
use mir.Syntax.{w128}
use Rattle.fd_interval.specs.Limit.{IsWithinLimit}
use Rattle.fd_interval.proofs.ProductSteps.{back, fits, back_is, back_within}
use Rattle.fd_interval.proofs.Remainders.{above, below}

pub back_above : (z : ℤ) → IsWithinLimit z → pos 0 <ℤ z → pos 0 <ℤ back z
back_above z p h = subst (λ n. pos 0 <ℤ n) (sym (back_is z p)) h

pub back_ordered : (l h : ℤ) → IsWithinLimit l → IsWithinLimit h → l ≤ℤ h → back l ≤ℤ back h
back_ordered l h p q k = subst (λ n. back l ≤ℤ n) (sym (back_is h q)) (subst (λ n. n ≤ℤ h) (sym (back_is l p)) k)

pub itself : (z : ℤ) → z ≤ℤ z
itself z = omega (arith, ints)

pub around : (l h : ℤ) → l ≤ℤ pos 0 → pos 0 ≤ℤ h → l ≤ℤ h
around l h p q = omega (arith, ints)

-- a number no farther from 0 than one within the limit
pub near_within : (x n : ℤ) → IsWithinLimit x → unsigned_abs n ≤ unsigned_abs (back x) → IsWithinLimit n
near_within x n p h = omega (arith, ap unsigned_abs (back_is x p))

within_smaller : (x y n : ℤ) → IsWithinLimit x → IsWithinLimit y → n ≡ int_min x y → IsWithinLimit n
within_smaller x y n p q e = omega (arith, ints, clamps)

pub smaller : (x y n : ℤ) → IsWithinLimit x → IsWithinLimit y → n ≡ int_min (back x) (back y) → IsWithinLimit (back n) × (back n ≡ int_min x y)
smaller x y n p q e =
    let is : n ≡ int_min x y = e ∙ (λ i. int_min (back_is x p i) (back_is y q i)) in
    let h = within_smaller x y n p q is in
    (back_within n h, back_is n h ∙ is)

within_greater : (x y n : ℤ) → IsWithinLimit x → IsWithinLimit y → n ≡ int_max x y → IsWithinLimit n
within_greater x y n p q e = omega (arith, ints, clamps)

pub greater : (x y n : ℤ) → IsWithinLimit x → IsWithinLimit y → n ≡ int_max (back x) (back y) → IsWithinLimit (back n) × (back n ≡ int_max x y)
greater x y n p q e =
    let is : n ≡ int_max x y = e ∙ (λ i. int_max (back_is x p i) (back_is y q i)) in
    let h = within_greater x y n p q is in
    (back_within n h, back_is n h ∙ is)

-- the greater of a number and 1
pub at_least_one : (x n : ℤ) → IsWithinLimit x → n ≡ int_max (back x) (pos 1) → IsWithinLimit n × (n ≡ int_max x (pos 1))
at_least_one x n p e =
    let is : n ≡ int_max x (pos 1) = e ∙ (λ i. int_max (back_is x p i) (pos 1)) in
    (within_one x n p is, is)
  where
    within_one : (x n : ℤ) → IsWithinLimit x → n ≡ int_max x (pos 1) → IsWithinLimit n
    within_one x n p e = omega (arith, ints, clamps)

pub above_one : (x n : ℤ) → n ≡ int_max x (pos 1) → pos 0 <ℤ n
above_one x n e = omega (arith, ints, clamps)

-- the number with the other sign
negated_within : (z : ℤ) → IsWithinLimit z → IsWithinLimit (pos 0 -ℤ z)
negated_within z p = omega (arith, ints)

negated_is : (z : ℤ) → (pos 0 -ℤ z) ≡ neg_ℤ z
negated_is z = omega (arith, ints)

negated_back : (z : ℤ) → IsWithinLimit z → IsWithinLimit (pos 0 -ℤ back z)
negated_back z p = subst (λ n. IsWithinLimit (pos 0 -ℤ n)) (sym (back_is z p)) (negated_within z p)

pub negated_fits : (z : ℤ) → IsWithinLimit z → FitsSigned w128 (pos 0 -ℤ back z)
negated_fits z p = fits (pos 0 -ℤ back z) (negated_back z p)

pub coded_negated : (z : ℤ) → IsWithinLimit z → IsWithinLimit (back (pos 0 -ℤ back z)) × (back (pos 0 -ℤ back z) ≡ neg_ℤ z)
coded_negated z p =
    let w = negated_back z p in
    (back_within (pos 0 -ℤ back z) w, back_is (pos 0 -ℤ back z) w ∙ ap (λ n. pos 0 -ℤ n) (back_is z p) ∙ negated_is z)

-- the end of a span that is farther from 0
pub farther : (l h n : ℤ) → IsWithinLimit l → IsWithinLimit h → n ≡ int_max (back h) (back (pos 0 -ℤ back l)) → IsWithinLimit n × (n ≡ int_max h (neg_ℤ l))
farther l h n p q e =
    let down = coded_negated l p in
    let is : n ≡ int_max h (neg_ℤ l) = e ∙ (λ i. int_max (back_is h q i) (down.1 i)) in
    (within_farther l h n p q is, is)
  where
    within_farther : (l h n : ℤ) → IsWithinLimit l → IsWithinLimit h → n ≡ int_max h (neg_ℤ l) → IsWithinLimit n
    within_farther l h n p q e = omega (arith, ints, clamps)

pub farther_ordered : (l h n : ℤ) → l ≤ℤ h → n ≡ int_max h (neg_ℤ l) → neg_ℤ n ≤ℤ n
farther_ordered l h n k e = omega (arith, ints, clamps)

-- the least and the greatest absolute value of a span's members
pub nearest : (l h m n : ℤ) → IsWithinLimit l → IsWithinLimit h → m ≡ int_max (back l) (back (pos 0 -ℤ back h)) → n ≡ int_max (back m) (pos 0) → IsWithinLimit n × (n ≡ int_max (int_max l (neg_ℤ h)) (pos 0))
nearest l h m n p q e f =
    let far = farther h l m q p e in
    let is : n ≡ int_max m (pos 0) = f ∙ (λ i. int_max (back_is m far.0 i) (pos 0)) in
    (within_nearest m n far.0 is, is ∙ ap (λ k. int_max k (pos 0)) far.1)
  where
    within_nearest : (m n : ℤ) → IsWithinLimit m → n ≡ int_max m (pos 0) → IsWithinLimit n
    within_nearest m n p e = omega (arith, ints, clamps)

pub nearest_ordered : (l h n m : ℤ) → l ≤ℤ h → n ≡ int_max (int_max l (neg_ℤ h)) (pos 0) → m ≡ int_max h (neg_ℤ l) → n ≤ℤ m
nearest_ordered l h n m k e f = omega (arith, ints, clamps)

pub sum_fits : (x y : ℤ) → IsWithinLimit x → IsWithinLimit y → IsWithinLimit (x +ℤ y) → FitsSigned w128 (back x +ℤ back y)
sum_fits x y p q r = subst (FitsSigned w128) (sym (λ i. back_is x p i +ℤ back_is y q i)) (fits (x +ℤ y) r)

pub coded_sum : (x y : ℤ) → IsWithinLimit x → IsWithinLimit y → IsWithinLimit (x +ℤ y) → IsWithinLimit (back (back x +ℤ back y)) × (back (back x +ℤ back y) ≡ (x +ℤ y))
coded_sum x y p q r =
    let is : back (back x +ℤ back y) ≡ (x +ℤ y) = (λ i. back (back_is x p i +ℤ back_is y q i)) ∙ back_is (x +ℤ y) r in
    (subst IsWithinLimit (sym is) r, is)

pub sums_ordered : (l h m n : ℤ) → l ≤ℤ h → m ≤ℤ n → (l +ℤ m) ≤ℤ (h +ℤ n)
sums_ordered l h m n p q = omega (arith, ints)

pub negated_ordered : (l h : ℤ) → l ≤ℤ h → neg_ℤ h ≤ℤ neg_ℤ l
negated_ordered l h p = omega (arith, ints)

pub ordered_as : (l h m n : ℤ) → l ≡ m → h ≡ n → m ≤ℤ n → l ≤ℤ h
ordered_as l h m n e f p = subst (λ z. l ≤ℤ z) (sym f) (subst (λ z. z ≤ℤ n) (sym e) p)

one_less : (z : ℤ) → IsWithinLimit z → FitsSigned w128 (z -ℤ pos 1)
one_less z p = omega (arith, ints)

pub less_fits : (z : ℤ) → IsWithinLimit z → FitsSigned w128 (back z -ℤ pos 1)
less_fits z p = subst (λ n. FitsSigned w128 (n -ℤ pos 1)) (sym (back_is z p)) (one_less z p)

pub less_is : (z : ℤ) → IsWithinLimit z → back (back z -ℤ pos 1) ≡ (z -ℤ pos 1)
less_is z p = ap (λ n. back (n -ℤ pos 1)) (back_is z p) ∙ to_z-of_z w128 (z -ℤ pos 1) (one_less z p)

pub rem_within : (x y : ℤ) → IsWithinLimit x → IsWithinLimit (int_rem x y)
rem_within x y h = by_lt_z x (pos 0)
    (λ k. let b = below x y (omega (arith, ints)) in omega (arith, ints, b.from, b.to))
    (λ k. let b = above x y k in omega (arith, ints, b.from, b.to))

-- how far remainders reach below 0, and above
pub lower_near : (lo far n : ℤ) → pos 0 ≤ℤ far → n ≡ int_max (int_min lo (pos 0)) (neg_ℤ far) → (unsigned_abs n ≤ unsigned_abs lo) × (n ≤ℤ pos 0)
lower_near lo far n h e = (omega (arith, ints, clamps), omega (arith, ints, clamps))

pub upper_near : (hi far n : ℤ) → pos 0 ≤ℤ far → n ≡ int_min (int_max hi (pos 0)) far → (unsigned_abs n ≤ unsigned_abs hi) × (pos 0 ≤ℤ n)
upper_near hi far n h e = (omega (arith, ints, clamps), omega (arith, ints, clamps))
