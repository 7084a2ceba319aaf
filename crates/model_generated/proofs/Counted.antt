-- The numbers from one on, one by one.
use Rattle.std.proofs.Common.{◌≡◌, ◌∙◌, ap, sym, ◌+◌, ◌-◌, ◌<◌, ℕ, suc, List, [], ◌∷◌, ◌++◌, append_assoc, arith}
use Rattle.std.specs.Prelude.{map, flat_map, ℤ}
use Rattle.model_generated.specs.Links.{counted_from}

-- below the end there is a next one
next : (k end : ℕ) → k < end → counted_from k (end - k) ≡ k ∷ counted_from (k + 1) (end - (k + 1))
next k end h =
    let e : end - k ≡ suc (end - (k + 1)) = omega arith in
    ap (counted_from k) e

-- what was gathered so far, and what comes of the rest
pub flat_step : (f : ℕ → List ℤ) (k end : ℕ) (old all : List ℤ) → k < end →
    old ++ flat_map f (counted_from k (end - k)) ≡ all → (old ++ f k) ++ flat_map f (counted_from (k + 1) (end - (k + 1))) ≡ all
flat_step f k end old all h was =
    append_assoc old (f k) (flat_map f (counted_from (k + 1) (end - (k + 1))))
    ∙ (sym (ap (λ (ks : List ℕ). old ++ flat_map f ks) (next k end h)) ∙ was)

pub map_step : (f : ℕ → ℤ) (k end : ℕ) (old all : List ℤ) → k < end →
    old ++ map f (counted_from k (end - k)) ≡ all → (old ++ f k ∷ []) ++ map f (counted_from (k + 1) (end - (k + 1))) ≡ all
map_step f k end old all h was =
    append_assoc old (f k ∷ []) (map f (counted_from (k + 1) (end - (k + 1))))
    ∙ (sym (ap (λ (ks : List ℕ). old ++ map f ks) (next k end h)) ∙ was)
