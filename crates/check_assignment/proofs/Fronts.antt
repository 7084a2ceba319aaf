-- Tests of the items between two places of a list.
use Rattle.std.proofs.Common.{◌≡◌, ◌∙◌, sym, ap, refl, ◌<◌, ◌≤◌, ◌+◌, ◌-◌, ℕ, zero, suc, Bool, true, false, List, [], ◌∷◌, length, take, drop, slice_get, Some, inl, inr, arith}
use Rattle.std.specs.List.{list_all}
use Rattle.std.proofs.lemmas.Bool.{cases_eq, and_from, and_left, and_right}

module _ {X : Type 0} (p : X → Bool) where
  all_front : (n : ℕ) (xs : List X) → ((i : ℕ) (x : X) → i < n → slice_get xs i ≡ Some x → p x ≡ true) → list_all p (take n xs) ≡ true
  all_front zero xs h = refl
  all_front (suc n) [] h = refl
  all_front (suc n) (x ∷ xs) h = and_from (p x) (list_all p (take n xs)) (h 0 x (omega arith) refl) (all_front n xs (λ i y l e. h (suc i) y (omega arith) e))

  fails_front : (n : ℕ) (xs : List X) (i : ℕ) (x : X) → i < n → slice_get xs i ≡ Some x → p x ≡ false → list_all p (take n xs) ≡ false
  fails_front zero xs i x l e h = absurd (omega arith)
  fails_front (suc n) [] i x l e h = cc
  fails_front (suc n) (y ∷ xs) zero x l e h = let same : y ≡ x = cc in and_left (p y) (list_all p (take n xs)) (ap p same ∙ h)
  fails_front (suc n) (y ∷ xs) (suc i) x l e h = and_right (p y) (list_all p (take n xs)) (fails_front n xs i x (omega arith) e h)

  get_dropped : (a : ℕ) (xs : List X) (i : ℕ) → slice_get (drop a xs) i ≡ slice_get xs (a + i)
  get_dropped zero xs i = ap (slice_get xs) (omega arith)
  get_dropped (suc a) [] i = sym (ap (slice_get []) (more a i))
    where
      more : (a i : ℕ) → suc a + i ≡ suc (a + i)
      more a i = omega arith
  get_dropped (suc a) (x ∷ xs) i = get_dropped a xs i ∙ sym (ap (slice_get (x ∷ xs)) (more a i))
    where
      more : (a i : ℕ) → suc a + i ≡ suc (a + i)
      more a i = omega arith

  -- the items from place a to the one before b all pass
  pub all_between : (a b : ℕ) (xs : List X) → ((i : ℕ) (x : X) → a ≤ i → i < b → slice_get xs i ≡ Some x → p x ≡ true) → list_all p (take (b - a) (drop a xs)) ≡ true
  all_between a b xs h = all_front (b - a) (drop a xs) (λ i x l e. h (a + i) x (omega arith) (omega arith) (sym (get_dropped a xs i) ∙ e))

  pub fails_between : (a b : ℕ) (xs : List X) (i : ℕ) (x : X) → a ≤ i → i < b → slice_get xs i ≡ Some x → p x ≡ false → list_all p (take (b - a) (drop a xs)) ≡ false
  fails_between a b xs i x h l e not_so =
      let at : a + (i - a) ≡ i = omega arith in
      fails_front (b - a) (drop a xs) (i - a) x (omega arith) (get_dropped a xs (i - a) ∙ (ap (slice_get xs) at ∙ e)) not_so

  -- one item more
  pub one_more : (a k : ℕ) (xs : List X) → ((i : ℕ) (x : X) → a ≤ i → i < k → slice_get xs i ≡ Some x → p x ≡ true) → ((x : X) → slice_get xs k ≡ Some x → p x ≡ true) →
      (i : ℕ) (x : X) → a ≤ i → i < k + 1 → slice_get xs i ≡ Some x → p x ≡ true
  one_more a k xs before here i x l h e = elim (cases_eq i k) [ inl same ↦ here x (sym (ap (slice_get xs) same) ∙ e) | inr apart ↦ before i x l (omega (arith, apart)) e ]

-- the item at a place
pub some_at : {X : Type 0} (xs : List X) (k : ℕ) → k < length xs → (x : X) × (slice_get xs k ≡ Some x)
some_at [] k h = absurd (omega arith)
some_at (x ∷ xs) zero h = (x, refl)
some_at (x ∷ xs) (suc k) h = some_at xs k (omega arith)
