-- A list that is seen through a function, once one of its elements is written.
use Rattle.std.proofs.Common.{◌≡◌, ℕ, zero, suc, ◌-◌, ◌<◌, List, [], ◌∷◌, length, ◌++◌, map, get_or, set, take, take_at, length-append, refl, sym, ap, ◌∙◌, arith}
use lib.ListN.{length-map}
use Rattle.paged_stack.specs.Packed.{last_of}

module _ {X Y : Type 0} (f : X → Y) where
  pub map_set : (xs : List X) (i : ℕ) (w : X) → map f (set xs i w) ≡ set (map f xs) i (f w)
  map_set [] i w = refl
  map_set (x ∷ xs) zero w = refl
  map_set (x ∷ xs) (suc i) w = ap (λ ys. f x ∷ ys) (map_set xs i w)

  -- the new element looks as the old one does
  pub map_kept : (xs : List X) (i : ℕ) (x w : X) → x ≡ get_or xs i x → f w ≡ f x → map f (set xs i w) ≡ map f xs
  map_kept [] i x w at e = refl
  map_kept (y ∷ ys) zero x w at e = ap (λ z. z ∷ map f ys) (e ∙ ap f at)
  map_kept (y ∷ ys) (suc i) x w at e = ap (λ zs. f y ∷ zs) (map_kept ys i x w at e)

  pub map_at : (xs : List X) (i : ℕ) (x : X) (d : Y) → i < length xs → x ≡ get_or xs i x → get_or (map f xs) i d ≡ f x
  map_at [] i x d p at = absurd (omega arith)
  map_at (y ∷ ys) zero x d p at = ap f (sym at)
  map_at (y ∷ ys) (suc i) x d p at = map_at ys i x d (omega arith) at

module _ {X Y : Type 0} (f : X → List Y) (xs : List X) (n : ℕ) (long : n ≡ length xs) where
  at_last : n - 1 ≡ length (map f xs) - 1
  at_last = ap (λ k. k - 1) (long ∙ sym (length-map xs f))

  pub last_set : (w : X) → map f (set xs (n - 1) w) ≡ set (map f xs) (length (map f xs) - 1) (f w)
  last_set w = map_set f xs (n - 1) w ∙ ap (λ k. set (map f xs) k (f w)) at_last

  pub last_is : (x : X) → 0 < n → x ≡ get_or xs (n - 1) x → last_of (map f xs) ≡ f x
  last_is x some at = ap (λ k. get_or (map f xs) k []) (sym at_last) ∙ map_at f xs (n - 1) x [] (omega arith) at

pub init_is : {Y : Type 0} (xs ys : List Y) (y : Y) → xs ≡ ys ++ y ∷ [] → ys ≡ take (length xs - 1) xs
init_is xs ys y e = sym (take_at ys (y ∷ []) (length xs - 1) (omega (arith, ap length e, length-append ys (y ∷ [])))) ∙ ap (take (length xs - 1)) (sym e)
