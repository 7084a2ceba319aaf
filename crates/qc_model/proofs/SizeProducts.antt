-- The product of the sizes of domains, capped on the way.
use Rattle.std.proofs.Common.{◌≡◌, ℕ, zero, suc, ◌⊎◌, inl, inr, drop, ◌+◌, ◌*◌, ◌<◌, ◌≤◌, ◌^◌, min, true, List, [], ◌∷◌, length, get_or, refl, sym, ap, ◌∙◌, arith}
use Rattle.std.proofs.lemmas.Bool.Decides.{nat_tests}
use Rattle.std.proofs.lemmas.List.{at_drop_more}
use Rattle.std.proofs.lemmas.List.Recursion.{and_at}
use Rattle.std.specs.List.{list_all}
use Rattle.std.proofs.Math.Nat.{mul-pos, mul-le-mul_right, le-mul_of_pos_right, mul_assoc}
use Rattle.qc_model.specs.declared.problem.Domain.{Domain}
use Rattle.qc_model.specs.declared.problem.Domain.TheVariants.{Bits, Range, Listed}
use Rattle.qc_model.specs.declared.problem.Variable.{Variable}
use Rattle.qc_model.specs.Domains.{domain_values}
use Rattle.qc_model.specs.Turns.{value_product}
use Rattle.qc_model.specs.Valid.{is_domain}
use Rattle.qc_model.proofs.DomainValues.{range_size}
use Rattle.qc_model.proofs.Conjunctions.{first, second}

size_positive : (d : Domain) → is_domain d ≡ true → 0 < length (domain_values d)
size_positive Bits h = omega arith
size_positive (Range low high) h = let e = range_size low high h in omega (arith, e)
size_positive (Listed []) h = cc
size_positive (Listed (n ∷ ns)) h = omega arith

pub product_positive : (xs : List Variable) → list_all (λ x. is_domain x.domain) xs ≡ true → 0 < value_product xs
product_positive [] h = omega arith
product_positive (x ∷ xs) h =
    mul-pos (size_positive x.domain (first (is_domain x.domain) (list_all (λ y. is_domain y.domain) xs) h))
    (product_positive xs (second (is_domain x.domain) (list_all (λ y. is_domain y.domain) xs) h))

capped : (a b top : ℕ) → top ≤ a → a ≤ b → min a top ≡ min b top
capped a b top h l = omega arith

cap : (x p top : ℕ) → 0 < p → min (min x top * p) top ≡ min (x * p) top
cap x p top h = go (order x top)
  where
    order : (a b : ℕ) → (a ≤ b) ⊎ (b ≤ a)
    order a b = grind (arith, nat_tests)

    go : (x ≤ top) ⊎ (top ≤ x) → min (min x top * p) top ≡ min (x * p) top
    go (inl l) = let e : min x top ≡ x = omega arith in ap (λ m. min (m * p) top) e
    go (inr l) =
        let e : min x top ≡ top = omega arith in
        let up : top ≤ top * p = le-mul_of_pos_right top h in
        let more : top * p ≤ x * p = mul-le-mul_right p l in
        ap (λ m. min (m * p) top) e ∙ capped (top * p) (x * p) top up more

pub cap_once : (t s p top : ℕ) → 0 < p → min (min (t * s) top * p) top ≡ min (t * (s * p)) top
cap_once t s p top h = cap (t * s) p top h ∙ ap (λ n. min n top) (mul_assoc t s p)

pub domain_at : (xs : List Variable) (k : ℕ) (d : Variable) → k < length xs → list_all (λ x. is_domain x.domain) xs ≡ true → is_domain (get_or xs k d).domain ≡ true
domain_at xs k d h all = and_at (list_all (λ x. is_domain x.domain)) (λ x. is_domain x.domain) refl (λ _ _. refl) xs k d h all

later_domains : (xs : List Variable) (k : ℕ) → list_all (λ x. is_domain x.domain) xs ≡ true → list_all (λ x. is_domain x.domain) (drop k xs) ≡ true
later_domains xs zero all = all
later_domains [] (suc k) all = refl
later_domains (x ∷ xs) (suc k) all = later_domains xs k (second (is_domain x.domain) (list_all (λ y. is_domain y.domain) xs) all)

-- one size more
pub product_step : (xs : List Variable) (k t : ℕ) (d : Variable) → k < length xs → list_all (λ x. is_domain x.domain) xs ≡ true →
    min (min (t * length (domain_values (get_or xs k d).domain)) (2 ^ 63) * value_product (drop (k + 1) xs)) (2 ^ 63) ≡ min (t * value_product (drop k xs)) (2 ^ 63)
product_step xs k t d h all =
    cap_once t (length (domain_values (get_or xs k d).domain)) (value_product (drop (k + 1) xs)) (2 ^ 63) (product_positive (drop (k + 1) xs) (later_domains xs (k + 1) all))
    ∙ ap (λ n. min (t * n) (2 ^ 63)) (sym (at_drop_more value_product xs k d h))

pub product_next : (xs : List Variable) (k t : ℕ) (x : Variable) (size r : ℕ) → k < length xs → list_all (λ y. is_domain y.domain) xs ≡ true → x ≡ get_or xs k x →
    size ≡ length (domain_values x.domain) → r ≡ min (t * size) (2 ^ 63) → min (r * value_product (drop (k + 1) xs)) (2 ^ 63) ≡ min (t * value_product (drop k xs)) (2 ^ 63)
product_next xs k t x size r h all is sized capped_at =
    ap (λ n. min (n * value_product (drop (k + 1) xs)) (2 ^ 63)) (capped_at ∙ ap (λ n. min (t * n) (2 ^ 63)) (sized ∙ ap (λ y. length (domain_values y.domain)) is))
    ∙ product_step xs k t x h all
