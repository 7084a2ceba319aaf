-- The test that no number stands twice passes exactly where none does.
use Rattle.std.proofs.Common.{◌≡◌, ℕ, Bool, true, false, not, ◌||◌, inl, inr, List, [], ◌∷◌, refl, ◌==◌, ◌↔◌, IsTrue}
use Rattle.std.specs.List.{list_any}
use Rattle.std.proofs.lemmas.Bool.{eqb-true, eq-eqb, and_from}
use Rattle.qc_model.specs.Lists.{Among, Distinct}
use Rattle.qc_model.proofs.Conjunctions.{first, second}
use Rattle.model_arguments.specs.Apart.{all_apart}

among_any : (x : ℕ) (ys : List ℕ) → Among x ys → list_any (λ y. x == y) ys ≡ true
among_any x [] m = absurd m
among_any x (y ∷ ys) (inl e) = here (x == y) (list_any (λ z. x == z) ys) (eq-eqb x y e)
  where
    here : (a b : Bool) → a ≡ true → (a || b) ≡ true
    here true b h = refl
    here false b h = cc
among_any x (y ∷ ys) (inr m) = there (x == y) (list_any (λ z. x == z) ys) (among_any x ys m)
  where
    there : (a b : Bool) → b ≡ true → (a || b) ≡ true
    there true b h = refl
    there false b h = h

any_among : (x : ℕ) (ys : List ℕ) → list_any (λ y. x == y) ys ≡ true → Among x ys
any_among x [] h = cc
any_among x (y ∷ ys) h = by (x == y) (eqb-true x y) (any_among x ys) h
  where
    by : (b : Bool) → (b ≡ true → x ≡ y) → (list_any (λ z. x == z) ys ≡ true → Among x ys) → (b || list_any (λ z. x == z) ys) ≡ true → Among x (y ∷ ys)
    by true e f k = inl (e refl)
    by false e f k = inr (f k)

not_any : (b : Bool) → not b ≡ true → b ≡ true → ⊥
not_any true h e = cc
not_any false h e = cc

none : (b : Bool) → (b ≡ true → ⊥) → not b ≡ true
none true h = absurd (h refl)
none false h = refl

apart_differ : (xs : List ℕ) → all_apart xs ≡ true → Distinct xs
apart_differ [] h = tt
apart_differ (x ∷ xs) h =
    let here = list_any (λ y. x == y) xs in
    (λ m. not_any here (first (not here) (all_apart xs) h) (among_any x xs m), apart_differ xs (second (not here) (all_apart xs) h))

differ_apart : (xs : List ℕ) → Distinct xs → all_apart xs ≡ true
differ_apart [] d = refl
differ_apart (x ∷ xs) d =
    let here = list_any (λ y. x == y) xs in
    and_from (not here) (all_apart xs) (none here (λ h. d.0 (any_among x xs h))) (differ_apart xs d.1)

pub apart_distinct : (xs : List ℕ) → IsTrue (all_apart xs) ↔ Distinct xs
apart_distinct xs = (apart_differ xs, differ_apart xs)
