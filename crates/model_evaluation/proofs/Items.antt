-- Tests and sums over the values of items, with the items one by one.
use Rattle.std.proofs.Common.{◌≡◌, ℕ, ◌+◌, ◌<◌, ◌≤◌, Bool, true, false, ◌&&◌, ◌||◌, List, [], ◌∷◌, map, length, drop, get_or, min, refl, sym, subst, ◌⊎◌, inl, inr, leb, ◌^◌, ap, ◌∙◌, arith, IsTrue, ℤ}
use Rattle.std.specs.Prelude.{pos, ◌+ℤ◌, ◌*ℤ◌, unsigned_abs}
use Rattle.std.specs.List.{list_any, list_all}
use Rattle.std.proofs.lemmas.List.{at_drop_more, at_drop_all, length-map}
use Rattle.std.proofs.lemmas.List.Recursion.{and_at}
use Rattle.std.proofs.lemmas.Bool.{leb-true}
use Rattle.std.proofs.lemmas.Bool.Decides.{nat_tests}
use Rattle.std.proofs.lemmas.Int.{ints, unsigned_abs-mul}
use Rattle.std.proofs.Math.Nat.{mul-le-mul}
use Rattle.qc_model.specs.Valid.{is_number}
use Rattle.qc_model.specs.Holds.{sum_of_products}

pub list_all-map : {X Y : Type 0} (p : Y → Bool) (f : X → Y) (xs : List X) → list_all (λ x. p (f x)) xs ≡ list_all p (map f xs)
list_all-map p f [] = refl
list_all-map p f (x ∷ xs) = ap (λ b. p (f x) && b) (list_all-map p f xs)

pub list_any-map : {X Y : Type 0} (p : Y → Bool) (f : X → Y) (xs : List X) → list_any (λ x. p (f x)) xs ≡ list_any p (map f xs)
list_any-map p f [] = refl
list_any-map p f (x ∷ xs) = ap (λ b. p (f x) || b) (list_any-map p f xs)

pub sum_step : (ns vs : List ℤ) (k : ℕ) → k < length ns → k < length vs →
    sum_of_products (drop k ns) (drop k vs) ≡ (get_or ns k (pos 0) *ℤ get_or vs k (pos 0)) +ℤ sum_of_products (drop (k + 1) ns) (drop (k + 1) vs)
sum_step ns vs k h m =
    at_drop_more (λ l. sum_of_products l (drop k vs)) ns k (pos 0) h
    ∙ at_drop_more (λ l. sum_of_products (get_or ns k (pos 0) ∷ drop (k + 1) ns) l) vs k (pos 0) m

no_product : (ns : List ℤ) → sum_of_products ns [] ≡ pos 0
no_product [] = refl
no_product (n ∷ ns) = refl

-- nothing is left once one of the lists is at its end
pub sum_end : (ns vs : List ℤ) (k : ℕ) → (length ns ≤ k) ⊎ (length vs ≤ k) → sum_of_products (drop k ns) (drop k vs) ≡ pos 0
sum_end ns vs k (inl h) = at_drop_all (λ l. sum_of_products l (drop k vs)) ns k h
sum_end ns vs k (inr h) = at_drop_all (λ l. sum_of_products (drop k ns) l) vs k h ∙ no_product (drop k ns)

pub at_end : (a b k : ℕ) → min a b ≤ k → (a ≤ k) ⊎ (b ≤ k)
at_end a b k h = elim (leb a k) as (λ t. leb a k ≡ t → (a ≤ k) ⊎ (b ≤ k)) [ true ↦ λ e. inl (leb-true a k e) | false ↦ λ e. inr (grind (arith, nat_tests)) ] refl

-- a number of a list that is within the limit
pub number_at : (ns : List ℤ) (k : ℕ) (d : ℤ) → k < length ns → IsTrue (list_all is_number ns) → unsigned_abs (get_or ns k d) ≤ 1000000000
number_at ns k d h t = leb-true (unsigned_abs (get_or ns k d)) 1000000000 (and_at (list_all is_number) is_number refl (λ _ _. refl) ns k d h t)

pub item_at : {X : Type 0} (f : X → ℤ) (xs : List X) (k : ℕ) (d : ℤ) → k < length xs → IsTrue (list_all is_number (map f xs)) → unsigned_abs (get_or (map f xs) k d) ≤ 1000000000
item_at f xs k d h t = number_at (map f xs) k d (subst (λ n. k < n) (sym (length-map xs f)) h) t

pub small_product : (a b : ℤ) → unsigned_abs a ≤ 1000000000 → unsigned_abs b ≤ 1000000000 → unsigned_abs (a *ℤ b) ≤ 10 ^ 18
small_product a b h m =
    rw unsigned_abs-mul (mul-le-mul h m)

pub abs_sum : (a b : ℤ) → unsigned_abs (a +ℤ b) ≤ unsigned_abs a + unsigned_abs b
abs_sum a b = grind (arith, ints)
