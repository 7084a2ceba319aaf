-- Numbers that differ, and numbers found in ascending order.
use Rattle.std.proofs.Common.{◌≡◌, ℕ, zero, suc, ◌<◌, ◌≤◌, Bool, true, false, ◌&&◌, ◌||◌, List, [], ◌∷◌, length, get_or, ◌⊎◌, inl, inr, add-one, refl, sym, arith, IsTrue, ℤ, Result, Ok, Err}
use Rattle.std.specs.Prelude.{pos, ◌<ℤ◌, int_lt, nat_le, is_ok}
use Rattle.std.specs.List.{list_any, list_all}
use Rattle.std.specs.List.Sorted.{IsBinarySearchResult, IsSearchInRange, IsSortedBy}
use Rattle.std.specs.Ordering.{int_eq, int_cmp, is_lt, MatchOrdering}
use Rattle.std.specs.declared.cmp.Ordering.{Ordering}
use Rattle.std.specs.declared.cmp.Ordering.TheVariants.{Less, Equal, Greater}
use Rattle.std.proofs.lemmas.Int.{ints}
use Rattle.std.proofs.lemmas.Cmp.{int_ranked, int_cmp_total}
use Rattle.std.proofs.lemmas.Bool.Decides.{Decides-int_eq, nat_tests}
use Rattle.std.proofs.lemmas.List.Recursion.{or_at, or_from_places}
use Rattle.std.proofs.lemmas.List.Sorted.{searchable_from_sorted}
use Rattle.qc_model.specs.declared.problem.Set.TheVariants.{Listed}
use Rattle.qc_model.specs.Domains.{is_ascending, is_none_left}
use Rattle.qc_model.specs.Valid.{is_set, is_number, has_gap}
use Rattle.qc_model.proofs.Conjunctions.{first, second}

pub differ : (a b : ℤ) → a <ℤ b → int_eq b a ≡ false
differ a b h = go (int_eq b a) (Decides-int_eq b a).0
  where
    go : (t : Bool) → (t ≡ true → b ≡ a) → t ≡ false
    go true same = let e = same refl in absurd (omega (arith, ints))
    go false same = refl

pub differ_up : (a b : ℤ) → a <ℤ b → int_eq a b ≡ false
differ_up a b h = go (int_eq a b) (Decides-int_eq a b).0
  where
    go : (t : Bool) → (t ≡ true → a ≡ b) → t ≡ false
    go true same = let e = same refl in absurd (omega (arith, ints))
    go false same = refl

pub listed_ascends : (ns : List ℤ) → IsTrue (is_set (Listed ns)) → IsTrue (is_ascending ns)
listed_ascends ns h =
    let few = nat_le (length ns) 100000 in
    second (few && list_all is_number ns) (is_ascending ns)
    (first (few && list_all is_number ns && is_ascending ns) (is_none_left ns || has_gap ns) h)

ascends_at : (xs : List ℤ) (k : ℕ) (d : ℤ) → is_ascending xs ≡ true → suc k < length xs → int_lt (get_or xs k d) (get_or xs (suc k) d) ≡ true
ascends_at [] k d h m = absurd (omega arith)
ascends_at (x ∷ []) k d h m = absurd (omega arith)
ascends_at (x ∷ y ∷ xs) zero d h m = first (int_lt x y) (is_ascending (y ∷ xs)) h
ascends_at (x ∷ y ∷ xs) (suc k) d h m = ascends_at (y ∷ xs) k d (second (int_lt x y) (is_ascending (y ∷ xs)) h) (omega arith)

not_below : (a b : ℤ) → int_lt a b ≡ true → is_lt (int_cmp b a) ≡ false
not_below a b h = go (int_cmp b a) (int_ranked b a (int_cmp b a) refl)
  where
    go : (o : Ordering) → MatchOrdering o (b <ℤ a) (b ≡ a) (a <ℤ b) → is_lt o ≡ false
    go Less q = absurd (omega (arith, ints, q))
    go Equal q = refl
    go Greater q = refl

sorted : (xs : List ℤ) → is_ascending xs ≡ true → IsSortedBy (λ a b. is_lt (int_cmp a b)) xs
sorted xs h k d low m = rw add-one (not_below (get_or xs k d) (get_or xs (suc k) d) (ascends_at xs k d h (omega arith)))

found : (x y : ℤ) → int_cmp y x ≡ Equal → int_eq x y ≡ true
found x y e = go (int_cmp y x) (int_ranked y x (int_cmp y x) refl) e
  where
    go : (o : Ordering) → MatchOrdering o (y <ℤ x) (y ≡ x) (x <ℤ y) → o ≡ Equal → int_eq x y ≡ true
    go Less q e = cc
    go Equal q e = (Decides-int_eq x y).1 (sym q)
    go Greater q e = cc

missed : (x y : ℤ) (o : Ordering) → o ≡ int_cmp y x → (o ≡ Less) ⊎ (o ≡ Greater) → int_eq x y ≡ false
missed x y o e w = go o (int_ranked y x o e) w
  where
    go : (o : Ordering) → MatchOrdering o (y <ℤ x) (y ≡ x) (x <ℤ y) → (o ≡ Less) ⊎ (o ≡ Greater) → int_eq x y ≡ false
    go Less q w = differ y x q
    go Equal q (inl w) = cc
    go Equal q (inr w) = cc
    go Greater q w = differ_up x y q

pub found_in_order : (xs : List ℤ) (x : ℤ) (r : Result ℕ ℕ) → IsTrue (is_ascending xs) → IsSearchInRange r (length xs) → IsBinarySearchResult (λ y. int_cmp y x) xs r → is_ok r ≡ list_any (int_eq x) xs
found_in_order xs x (Ok i) up within at =
    sym (or_at (list_any (int_eq x)) (int_eq x) refl (λ _ _. refl) xs i (pos 0) within (found x (get_or xs i (pos 0)) (at (pos 0))))
found_in_order xs x (Err i) up within at =
    let parted = at (searchable_from_sorted int_cmp_total (λ y. y) xs x (sorted xs up)) in
    sym (or_from_places (list_any (int_eq x)) (int_eq x) refl (λ _ _. refl) xs (pos 0)
    (λ k m. missed x (get_or xs k (pos 0)) (int_cmp (get_or xs k (pos 0)) x) refl
    (elim (order k i) [ inl l ↦ inl (parted.0 k (pos 0) (omega arith) l) | inr l ↦ inr (parted.1 k (pos 0) l m) ])))
  where
    order : (k i : ℕ) → (k < i) ⊎ (i ≤ k)
    order k i = grind (arith, nat_tests)
