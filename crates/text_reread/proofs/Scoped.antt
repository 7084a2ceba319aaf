-- A list that is in the order of its scopes is what its scopes hold, one after another.
use Rattle.std.proofs.Common.{◌≡◌, ◌∙◌, sym, ap, refl, ◌+◌, ◌≤◌, ◌<◌, ◌==◌, ℕ, zero, suc, Bool, true, false, cond, List, [], ◌∷◌, ◌++◌, map, filter, arith, ltb-true, leb-true, eqb-true, ne_eqb}
use Rattle.std.specs.Prelude.{⊤, nat_le}
use Rattle.std.specs.List.{list_all, AllByRecursion}
use Rattle.std.proofs.lemmas.Bool.{and_parts, cond-false, eqb-false}
use Rattle.qc_model.specs.Valid.{is_in_order}

module _ {X : Type 0} where
  -- what a test says of a whole list it says of each element
  pub each_true : (p : X → Bool) (xs : List X) → list_all p xs ≡ true → AllByRecursion (λ x. p x ≡ true) xs
  each_true p [] h = tt
  each_true p (x ∷ xs) h = let t = and_parts (p x) (list_all p xs) h in (t.0, each_true p xs t.1)

module _ {X : Type 0} (f : X → ℕ) where
  -- those of scope i, of the next, and so on, for n scopes
  abbrev pub by_scopes : ℕ → ℕ → List X → List X
  by_scopes zero i xs = []
  by_scopes (suc n) i xs = filter (λ x. f x == i) xs ++ by_scopes n (suc i) xs

  -- the numbers never fall, none is below low, and all are below high
  abbrev pub AreOrdered : ℕ → ℕ → List X → Type 0
  AreOrdered high low [] = ⊤
  AreOrdered high low (x ∷ xs) = (low ≤ f x) × (f x < high) × AreOrdered high (f x) xs

  -- scope i has none of a list whose scopes are all later
  none_at : (i low high : ℕ) (xs : List X) → AreOrdered high low xs → i < low → filter (λ x. f x == i) xs ≡ []
  none_at i low high [] h lt = refl
  none_at i low high (x ∷ xs) h lt =
      let first = h.0 in
      cond-false (f x == i) (x ∷ filter (λ y. f y == i) xs) (filter (λ y. f y == i) xs) (ne_eqb (f x) i (λ e. omega arith)) ∙ none_at i (f x) high xs h.2 (omega arith)

  -- the scopes from i on don't have one of an earlier scope
  past : (n i : ℕ) (x : X) (xs : List X) → f x < i → by_scopes n i (x ∷ xs) ≡ by_scopes n i xs
  past zero i x xs lt = refl
  past (suc n) i x xs lt =
      ap (λ ys. ys ++ by_scopes n (suc i) (x ∷ xs)) (cond-false (f x == i) (x ∷ filter (λ y. f y == i) xs) (filter (λ y. f y == i) xs) (ne_eqb (f x) i (λ e. omega arith)))
      ∙ ap (λ zs. filter (λ y. f y == i) xs ++ zs) (past n (suc i) x xs (omega arith))

  -- the first of a list in order is the first by scopes
  first : (n i high : ℕ) (x : X) (xs : List X) → AreOrdered high (f x) xs → i ≤ f x → f x < i + n → by_scopes n i (x ∷ xs) ≡ x ∷ by_scopes n i xs
  first zero i high x xs h l lt = absurd (omega arith)
  first (suc n) i high x xs h l lt = go (f x == i) refl (λ above. first n (suc i) high x xs h above (omega arith))
    where
      go : (b : Bool) → (f x == i) ≡ b → (suc i ≤ f x → by_scopes n (suc i) (x ∷ xs) ≡ x ∷ by_scopes n (suc i) xs) →
          cond b (x ∷ filter (λ y. f y == i) xs) (filter (λ y. f y == i) xs) ++ by_scopes n (suc i) (x ∷ xs) ≡ x ∷ (filter (λ y. f y == i) xs ++ by_scopes n (suc i) xs)
      go true e later = let same = eqb-true (f x) i e in ap (λ zs. x ∷ (filter (λ y. f y == i) xs ++ zs)) (past n (suc i) x xs (omega (arith, same)))
      go false e later =
          let apart : f x ≡ i → ⊥ = eqb-false (f x) i e in
          let none = none_at i (f x) high xs h (omega arith) in
          ap (λ ys. ys ++ by_scopes n (suc i) (x ∷ xs)) none ∙ later (omega arith) ∙ ap (λ ys. x ∷ (ys ++ by_scopes n (suc i) xs)) (sym none)

  nothing : (n i : ℕ) → by_scopes n i [] ≡ []
  nothing zero i = refl
  nothing (suc n) i = nothing n (suc i)

  -- all of the list, where the scopes are all that it speaks of
  pub all_scopes : (n i low high : ℕ) (xs : List X) → AreOrdered high low xs → i ≤ low → high ≤ i + n → by_scopes n i xs ≡ xs
  all_scopes n i low high [] h l u = nothing n i
  all_scopes n i low high (x ∷ xs) h l u =
      let a = h.0 in
      let b = h.1 in
      first n i high x xs h.2 (omega arith) (omega arith) ∙ ap (λ zs. x ∷ zs) (all_scopes n i (f x) high xs h.2 (omega arith) u)

  order_from : (high low : ℕ) (x : X) (xs : List X) → is_in_order high (map f (x ∷ xs)) ≡ true → low ≤ f x → AreOrdered high low (x ∷ xs)
  order_from high low x [] h l = (l, ltb-true (f x) high h, tt)
  order_from high low x (y ∷ ys) h l =
      let t = and_parts (nat_le (f x) (f y)) (is_in_order high (map f (y ∷ ys))) h in
      let le = leb-true (f x) (f y) t.0 in
      let r = order_from high (f x) y ys t.1 le in
      let lt = r.1 in
      (l, omega arith, r)

  -- a list in order
  pub ordered : (high : ℕ) (xs : List X) → is_in_order high (map f xs) ≡ true → AreOrdered high 0 xs
  ordered high [] h = tt
  ordered high (x ∷ xs) h = order_from high 0 x xs h (omega arith)

  -- what a scope holds is of that scope, and what held of each of the list holds of it
  pub each_kept : (P : X → Type 0) (i : ℕ) (xs : List X) → AllByRecursion P xs → AllByRecursion (λ x. (f x ≡ i) × P x) (filter (λ x. f x == i) xs)
  each_kept P i [] h = tt
  each_kept P i (x ∷ xs) h = go (f x == i) refl (each_kept P i xs h.1)
    where
      go : (b : Bool) → (f x == i) ≡ b → AllByRecursion (λ y. (f y ≡ i) × P y) (filter (λ y. f y == i) xs) → AllByRecursion (λ y. (f y ≡ i) × P y) (cond b (x ∷ filter (λ y. f y == i) xs) (filter (λ y. f y == i) xs))
      go true e later = ((eqb-true (f x) i e, h.0), later)
      go false e later = later
