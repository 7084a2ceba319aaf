-- What holds of each element of a list, as a recursion on the list.
use Rattle.std.proofs.Common.{◌≡◌, refl, subst, ℕ, zero, suc, Bool, true, List, [], ◌∷◌, ◌++◌, map, drop, slice_get, Some}
use Rattle.std.specs.List.{list_all, AllByRecursion}
use Rattle.std.proofs.lemmas.Bool.{and_parts}
use Rattle.std.proofs.lemmas.Option.{same_Some}

module _ {X : Type 0} where
  pub each_both : (P : X → Type 0) (xs ys : List X) → AllByRecursion P xs → AllByRecursion P ys → AllByRecursion P (xs ++ ys)
  each_both P [] ys h k = k
  each_both P (x ∷ xs) ys h k = (h.0, each_both P xs ys h.1 k)

  pub each_change : (P Q : X → Type 0) → ((x : X) → P x → Q x) → (xs : List X) → AllByRecursion P xs → AllByRecursion Q xs
  each_change P Q c [] h = tt
  each_change P Q c (x ∷ xs) h = (c x h.0, each_change P Q c xs h.1)

  -- by the place of each
  pub each_at : (P : X → Type 0) (xs : List X) → ((k : ℕ) (x : X) → slice_get xs k ≡ Some x → P x) → AllByRecursion P xs
  each_at P [] h = tt
  each_at P (x ∷ xs) h = (h zero x refl, each_at P xs (λ k y e. h (suc k) y e))

  pub all_at : (p : X → Bool) (xs : List X) (k : ℕ) (x : X) → list_all p xs ≡ true → slice_get xs k ≡ Some x → p x ≡ true
  all_at p [] k x h e = absurd cc
  all_at p (y ∷ xs) zero x h e = subst (λ z. p z ≡ true) (same_Some y x e) (and_parts (p y) (list_all p xs) h).0
  all_at p (y ∷ xs) (suc k) x h e = all_at p xs k x (and_parts (p y) (list_all p xs) h).1 e

  -- the first of what is left
  pub first_left : (i : ℕ) (xs : List X) (y : X) (ys : List X) → drop i xs ≡ y ∷ ys → slice_get xs i ≡ Some y
  first_left zero [] y ys h = absurd cc
  first_left zero (x ∷ xs) y ys h = cc
  first_left (suc i) [] y ys h = absurd cc
  first_left (suc i) (x ∷ xs) y ys h = first_left i xs y ys h

  -- and what is left after it
  pub next_left : (i : ℕ) (xs : List X) (y : X) (ys : List X) → drop i xs ≡ y ∷ ys → drop (suc i) xs ≡ ys
  next_left zero [] y ys h = absurd cc
  next_left zero (x ∷ xs) y ys h = cc
  next_left (suc i) [] y ys h = absurd cc
  next_left (suc i) (x ∷ xs) y ys h = next_left i xs y ys h

module _ {X Y : Type 0} (f : X → Y) where
  pub each_map : (P : Y → Type 0) (xs : List X) → AllByRecursion (λ x. P (f x)) xs → AllByRecursion P (map f xs)
  each_map P [] h = tt
  each_map P (x ∷ xs) h = (h.0, each_map P xs h.1)

  pub left_map : (i : ℕ) (xs : List X) → drop i (map f xs) ≡ map f (drop i xs)
  left_map zero xs = refl
  left_map (suc i) [] = refl
  left_map (suc i) (x ∷ xs) = left_map i xs
