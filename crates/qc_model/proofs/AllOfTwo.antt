-- Tests of the names of two lists, as one list and as two.
use Rattle.std.proofs.Common.{◌≡◌, ◌∙◌, sym, ap, refl, Bool, true, false, ◌&&◌, ◌||◌, List, [], ◌∷◌, ◌++◌, map, ℕ}
use Rattle.std.specs.List.{list_all, list_any}
use Rattle.std.proofs.lemmas.List.Folds.{list_all-append, list_all-map, list_any-append}

pub both_then : (a b r : Bool) → a ≡ true → r ≡ b → r ≡ (a && b)
both_then true b r p q = q
both_then false b r p q = absurd cc

pub both_else : (a b r : Bool) → a ≡ false → r ≡ a → r ≡ (a && b)
both_else true b r p q = absurd cc
both_else false b r p q = q

pub either_then : (a b r : Bool) → a ≡ true → r ≡ a → r ≡ (a || b)
either_then true b r p q = q
either_then false b r p q = absurd cc

pub either_else : (a b r : Bool) → a ≡ false → r ≡ b → r ≡ (a || b)
either_else true b r p q = absurd cc
either_else false b r p q = q

pub list_any-map : {X Y : Type 0} (p : Y → Bool) (f : X → Y) (xs : List X) → list_any p (map f xs) ≡ list_any (λ x. p (f x)) xs
list_any-map p f [] = refl
list_any-map p f (x ∷ xs) = ap (λ b. p (f x) || b) (list_any-map p f xs)

module _ {X Y : Type 0} (f : X → List ℕ) (g : Y → List ℕ) where
  pub all_of_two : (p : List ℕ → Bool) (xs : List X) (ys : List Y) → (list_all (λ x. p (f x)) xs && list_all (λ y. p (g y)) ys) ≡ list_all p (map f xs ++ map g ys)
  all_of_two p xs ys = sym (list_all-append p (map f xs) (map g ys) ∙ ap (λ a. a && list_all p (map g ys)) (list_all-map p f xs) ∙ ap (λ b. list_all (λ x. p (f x)) xs && b) (list_all-map p g ys))

  pub any_of_two : (p : List ℕ → Bool) (xs : List X) (ys : List Y) → list_any p (map f xs ++ map g ys) ≡ (list_any (λ x. p (f x)) xs || list_any (λ y. p (g y)) ys)
  any_of_two p xs ys = list_any-append p (map f xs) (map g ys) ∙ ap (λ a. a || list_any p (map g ys)) (list_any-map p f xs) ∙ ap (λ b. list_any (λ x. p (f x)) xs || b) (list_any-map p g ys)
