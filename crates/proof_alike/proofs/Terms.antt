-- Sums by their terms, and those that differ term by term as two others do.
use Rattle.std.proofs.Common.{◌≡◌, Bool, true, false, cond, List, [], ◌∷◌, map, refl, ap, ◌∙◌, arith, ℤ, pos, ◌+ℤ◌, ◌*ℤ◌}
use Rattle.std.specs.Prelude.{int_lt}
use Rattle.std.specs.Int.{int_min, int_max}
use Rattle.std.proofs.lemmas.Int.{ints}
use Rattle.qc_model.specs.declared.problem.Arg.{Arg}
use Rattle.qc_model.specs.Domains.{Values, least_value}
use Rattle.qc_model.specs.Holds.{sum_of_products}
use Rattle.qc_model.specs.Left.{span, sum_range}
use Rattle.qc_model.specs.Ranges.{Range, range_of, point, range_sum, product}

abbrev pub total : (ℤ → Arg → ℤ) → List ℤ → List Arg → ℤ
total t [] xs = pos 0
total t (n ∷ ns) [] = pos 0
total t (n ∷ ns) (x ∷ xs) = t n x +ℤ total t ns xs

pub products_total : (f : Arg → ℤ) (ns : List ℤ) (xs : List Arg) → sum_of_products ns (map f xs) ≡ total (λ n x. n *ℤ f x) ns xs
products_total f [] xs = refl
products_total f (n ∷ ns) [] = refl
products_total f (n ∷ ns) (x ∷ xs) = ap (λ z. (n *ℤ f x) +ℤ z) (products_total f ns xs)

-- an end of the range of a sum
pub range_total : (e : Range → ℤ) → e (point (pos 0)) ≡ pos 0 → ((r s : Range) → e (range_sum r s) ≡ e r +ℤ e s) → (f : Arg → Values) (ns : List ℤ) (xs : List Arg) →
    e (sum_range ns (map f xs)) ≡ total (λ n x. e (product (point n) (span (f x)))) ns xs
range_total e z s f [] xs = z
range_total e z s f (n ∷ ns) [] = z
range_total e z s f (n ∷ ns) (x ∷ xs) = s (product (point n) (span (f x))) (sum_range ns (map f xs)) ∙ ap (λ m. e (product (point n) (span (f x))) +ℤ m) (range_total e z s f ns xs)

-- t is to s, term by term, as u is to v
pub balance : (t s u v : ℤ → Arg → ℤ) (ns : List ℤ) (xs : List Arg) → ((n : ℤ) (x : Arg) → (t n x +ℤ v n x) ≡ (s n x +ℤ u n x)) → (total t ns xs +ℤ total v ns xs) ≡ (total s ns xs +ℤ total u ns xs)
balance t s u v [] xs h = refl
balance t s u v (n ∷ ns) [] h = refl
balance t s u v (n ∷ ns) (x ∷ xs) h =
    both (t n x) (v n x) (s n x) (u n x) (total t ns xs) (total v ns xs) (total s ns xs) (total u ns xs) (h n x) (balance t s u v ns xs h)
  where
    both : (a b c d p q r w : ℤ) → (a +ℤ b) ≡ (c +ℤ d) → (p +ℤ q) ≡ (r +ℤ w) → ((a +ℤ p) +ℤ (b +ℤ q)) ≡ ((c +ℤ r) +ℤ (d +ℤ w))
    both a b c d p q r w h k = omega (arith, ints)

pub cancel : (p q u v : ℤ) → (p +ℤ v) ≡ (q +ℤ u) → u ≡ v → p ≡ q
cancel p q u v h e = omega (arith, ints)

-- the product of two numbers as ranges
pair_point : (z : ℤ) → range_of (int_min z z) (int_max z z) ≡ point z
pair_point z = by (int_lt z z)
  where
    by : (p : Bool) → range_of (cond p z z) (cond p z z) ≡ point z
    by true = refl
    by false = refl

one_more : (z : ℤ) (r : Range) → r ≡ point z → range_of (int_min z r.from) (int_max z r.to) ≡ point z
one_more z r e = ap (λ s. range_of (int_min z s.from) (int_max z s.to)) e ∙ pair_point z

point_product : (n m : ℤ) → product (point n) (point m) ≡ point (n *ℤ m)
point_product n m = let z = n *ℤ m in one_more z _ (one_more z _ (one_more z (point z) refl))

-- one value at most is left
abbrev pub IsOne : Values → Type 0
IsOne vs = span vs ≡ point (least_value vs)

pub one_product : (n : ℤ) (vs : Values) → IsOne vs → product (point n) (span vs) ≡ point (n *ℤ least_value vs)
one_product n vs h = ap (product (point n)) h ∙ point_product n (least_value vs)
