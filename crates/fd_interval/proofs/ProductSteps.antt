-- What the code of the product computes, without the passage to bits and back.
use Rattle.std.proofs.Common.{◌≡◌, ◌∙◌, sym, ap, subst, ℤ, ◌*ℤ◌, ◌≤ℤ◌, arith, FitsSigned}
use Rattle.std.specs.Int.{int_min, int_max}
use Rattle.std.proofs.lemmas.Int.{ints, clamps, to_z-of_z}
use mir.Syntax.{w128}
use mir.Val.{to_z, of_z}
use Rattle.fd_interval.specs.Limit.{IsWithinLimit}
use Rattle.fd_interval.specs.declared.span.Span.{Span}
use Rattle.fd_interval.specs.Spans.{least_of_four, greatest_of_four}

-- a number as it is read from its 128 bits
abbrev pub back : ℤ → ℤ
back z = to_z w128 (of_z w128 z)

pub fits : (z : ℤ) → IsWithinLimit z → FitsSigned w128 z
fits z h = omega (arith, ints)

pub back_is : (z : ℤ) → IsWithinLimit z → back z ≡ z
back_is z h = to_z-of_z w128 z (fits z h)

-- the product of two numbers, as the code has it
abbrev pub coded : ℤ → ℤ → ℤ
coded x y = back (back x *ℤ back y)

pub coded_is : (x y : ℤ) → IsWithinLimit x → IsWithinLimit y → IsWithinLimit (x *ℤ y) → coded x y ≡ (x *ℤ y)
coded_is x y p q r = (λ i. back (back_is x p i *ℤ back_is y q i)) ∙ back_is (x *ℤ y) r

least_within : (p q r s l : ℤ) → l ≡ least_of_four p q r s → IsWithinLimit p → IsWithinLimit q → IsWithinLimit r → IsWithinLimit s → IsWithinLimit l
least_within p q r s l e hp hq hr hs = omega (arith, ints, clamps)

-- three comparisons give the least of the four products
pub lowest_product : (a b : Span) (m n l : ℤ) → IsWithinLimit (a.lo *ℤ b.lo) → IsWithinLimit (a.lo *ℤ b.hi) → IsWithinLimit (a.hi *ℤ b.lo) → IsWithinLimit (a.hi *ℤ b.hi)
    → FitsSigned w128 m → FitsSigned w128 n → m ≡ int_min (coded a.hi b.lo) (coded a.hi b.hi) → n ≡ int_min (coded a.lo b.hi) (back m) → l ≡ int_min (coded a.lo b.lo) (back n)
    → IsWithinLimit l × (l ≡ least_of_four (a.lo *ℤ b.lo) (a.lo *ℤ b.hi) (a.hi *ℤ b.lo) (a.hi *ℤ b.hi))
lowest_product a b m n l p q r s fm fn em en el =
    let first : m ≡ int_min (a.hi *ℤ b.lo) (a.hi *ℤ b.hi) = em ∙ (λ i. int_min (coded_is a.hi b.lo a.hi_within b.lo_within r i) (coded_is a.hi b.hi a.hi_within b.hi_within s i)) in
    let second : n ≡ int_min (a.lo *ℤ b.hi) m = en ∙ (λ i. int_min (coded_is a.lo b.hi a.lo_within b.hi_within q i) (to_z-of_z w128 m fm i)) in
    let third : l ≡ int_min (a.lo *ℤ b.lo) n = el ∙ (λ i. int_min (coded_is a.lo b.lo a.lo_within b.lo_within p i) (to_z-of_z w128 n fn i)) in
    let is : l ≡ least_of_four (a.lo *ℤ b.lo) (a.lo *ℤ b.hi) (a.hi *ℤ b.lo) (a.hi *ℤ b.hi) = third ∙ ap (int_min (a.lo *ℤ b.lo)) (second ∙ ap (int_min (a.lo *ℤ b.hi)) first) in
    (least_within (a.lo *ℤ b.lo) (a.lo *ℤ b.hi) (a.hi *ℤ b.lo) (a.hi *ℤ b.hi) l is p q r s, is)

greatest_within : (p q r s l : ℤ) → l ≡ greatest_of_four p q r s → IsWithinLimit p → IsWithinLimit q → IsWithinLimit r → IsWithinLimit s → IsWithinLimit l
greatest_within p q r s l e hp hq hr hs = omega (arith, ints, clamps)

-- three comparisons give the greatest of the four products
pub highest_product : (a b : Span) (m n l : ℤ) → IsWithinLimit (a.lo *ℤ b.lo) → IsWithinLimit (a.lo *ℤ b.hi) → IsWithinLimit (a.hi *ℤ b.lo) → IsWithinLimit (a.hi *ℤ b.hi)
    → FitsSigned w128 m → FitsSigned w128 n → m ≡ int_max (coded a.hi b.lo) (coded a.hi b.hi) → n ≡ int_max (coded a.lo b.hi) (back m) → l ≡ int_max (coded a.lo b.lo) (back n)
    → IsWithinLimit l × (l ≡ greatest_of_four (a.lo *ℤ b.lo) (a.lo *ℤ b.hi) (a.hi *ℤ b.lo) (a.hi *ℤ b.hi))
highest_product a b m n l p q r s fm fn em en el =
    let first : m ≡ int_max (a.hi *ℤ b.lo) (a.hi *ℤ b.hi) = em ∙ (λ i. int_max (coded_is a.hi b.lo a.hi_within b.lo_within r i) (coded_is a.hi b.hi a.hi_within b.hi_within s i)) in
    let second : n ≡ int_max (a.lo *ℤ b.hi) m = en ∙ (λ i. int_max (coded_is a.lo b.hi a.lo_within b.hi_within q i) (to_z-of_z w128 m fm i)) in
    let third : l ≡ int_max (a.lo *ℤ b.lo) n = el ∙ (λ i. int_max (coded_is a.lo b.lo a.lo_within b.lo_within p i) (to_z-of_z w128 n fn i)) in
    let is : l ≡ greatest_of_four (a.lo *ℤ b.lo) (a.lo *ℤ b.hi) (a.hi *ℤ b.lo) (a.hi *ℤ b.hi) = third ∙ ap (int_max (a.lo *ℤ b.lo)) (second ∙ ap (int_max (a.lo *ℤ b.hi)) first) in
    (greatest_within (a.lo *ℤ b.lo) (a.lo *ℤ b.hi) (a.hi *ℤ b.lo) (a.hi *ℤ b.hi) l is p q r s, is)

pub back_within : (z : ℤ) → IsWithinLimit z → IsWithinLimit (back z)
back_within z h = omega (arith, ints)

pub product_fits : (x y : ℤ) → IsWithinLimit x → IsWithinLimit y → IsWithinLimit (x *ℤ y) → FitsSigned w128 (back x *ℤ back y)
product_fits x y p q r = subst (FitsSigned w128) (sym (λ i. back_is x p i *ℤ back_is y q i)) (fits (x *ℤ y) r)

pub four_ordered : (p q r s l h : ℤ) → l ≡ least_of_four p q r s → h ≡ greatest_of_four p q r s → l ≤ℤ h
four_ordered p q r s l h e f = omega (arith, ints, clamps)
