-- What holds of the items of a list.
use Rattle.std.proofs.Common.{◌≡◌, ℕ, zero, suc, ◌<◌, Bool, true, List, [], ◌∷◌, length, drop, get_or, ap, sym, subst, arith, Some}
use Rattle.std.specs.Prelude.{slice_get}
use Rattle.std.specs.List.{list_all}
use Rattle.std.proofs.lemmas.Bool.{and_parts}

-- what passes for all items passes for the one at a place
pub all_item : {X : Type 0} (p : X → Bool) (xs : List X) (n : ℕ) (x : X) → list_all p xs ≡ true → n < length xs → x ≡ get_or xs n x → p x ≡ true
all_item p [] n x h l e = absurd (omega arith)
all_item p (y ∷ xs) zero x h l e = subst (λ z. p z ≡ true) (sym e) (and_parts (p y) (list_all p xs) h).0
all_item p (y ∷ xs) (suc n) x h l e = all_item p xs n x (and_parts (p y) (list_all p xs) h).1 (omega arith) e

-- what stands at a place is the head of what is dropped up to it
pub drop_at : {X : Type 0} (n : ℕ) (xs : List X) (y : X) → slice_get xs n ≡ Some y → drop n xs ≡ y ∷ drop (suc n) xs
drop_at n [] y e = cc
drop_at zero (x ∷ xs) y e = let h : x ≡ y = cc in ap (λ z. z ∷ xs) h
drop_at (suc n) (x ∷ xs) y e = drop_at n xs y e
