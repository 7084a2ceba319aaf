-- The last item of a list, by its place.
use Rattle.std.proofs.Common.{◌≡◌, ℕ, suc, ◌-◌, List, [], ◌∷◌, map, length, refl, ap, ◌∙◌, sym, arith}
use Rattle.std.specs.Prelude.{slice_get}
use Rattle.std.proofs.lemmas.List.{length-map}
use Rattle.qc_model.specs.Arguments.{last_of}

pub last_at : {X : Type 0} (xs : List X) → last_of xs ≡ slice_get xs (length xs - 1)
last_at [] = refl
last_at (x ∷ []) = refl
last_at (x ∷ y ∷ xs) = last_at (y ∷ xs) ∙ ap (λ k. slice_get (x ∷ y ∷ xs) k) (up (length xs))
  where
    up : (n : ℕ) → suc (suc n - 1) ≡ suc (suc n) - 1
    up n = omega arith

pub last_place : {X Y : Type 0} (f : X → Y) (xs : List X) → slice_get (map f xs) (length xs - 1) ≡ last_of (map f xs)
last_place f xs = ap (λ n. slice_get (map f xs) (n - 1)) (sym (length-map xs f)) ∙ sym (last_at (map f xs))
