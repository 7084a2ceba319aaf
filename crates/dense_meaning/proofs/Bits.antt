-- Small facts on lists and truth values.
use Rattle.std.proofs.Common.{◌≡◌, inl, inr, ℕ, suc, Bool, true, false, ◌&&◌, ◌||◌, List, [], ◌∷◌, refl, sym, ap, ℤ, Some}
use Rattle.std.specs.Prelude.{slice_get}
use Rattle.std.specs.List.{list_all}
use Rattle.std.proofs.lemmas.Bool.Decides.{Decides-int_eq}
use Rattle.std.proofs.lemmas.Bool.{or_cases}
use Rattle.qc_model.specs.Lists.{Among}
use Rattle.qc_model.specs.Domains.{Values, has_value}

pub both_ways : (b : Bool) → b ≡ false → b ≡ true → ⊥
both_ways true e f = cc
both_ways false e f = cc

-- each item has its place
pub place_of : {X : Type 0} (xs : List X) (x : X) → Among x xs → (k : ℕ) × (slice_get xs k ≡ Some x)
place_of [] x m = absurd m
place_of (y ∷ xs) x m = elim m [ inl e ↦ (0, ap (λ z. Some z) (sym e)) | inr n ↦ (let r = place_of xs x n in (suc r.0, r.1)) ]

pub all_from : {X : Type 0} (p : X → Bool) (xs : List X) → ((x : X) → Among x xs → p x ≡ true) → list_all p xs ≡ true
all_from p [] f = refl
all_from p (x ∷ xs) f = by (p x) (list_all p xs) (f x (inl refl)) (all_from p xs (λ y m. f y (inr m)))
  where
    by : (a b : Bool) → a ≡ true → b ≡ true → (a && b) ≡ true
    by true b q r = r
    by false b q r = q

pub has_to : (d : Values) (v : ℤ) → has_value d v ≡ true → Among v d
has_to [] v e = cc
has_to (x ∷ d) v e = elim (or_cases _ _ e) [ inl q ↦ inl ((Decides-int_eq v x).0 q) | inr q ↦ inr (has_to d v q) ]
