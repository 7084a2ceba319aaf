-- What holds of each element of a list, as a recursion on the list.
use Rattle.std.proofs.Common.{◌≡◌, cond, Option, Some, None, refl, zero, suc, Bool, true, false, List, [], ◌∷◌, ◌++◌, filter_map, flat_map, All, arith}
use Rattle.std.proofs.lemmas.Bool.{and_from, and_parts}
use Rattle.std.specs.List.{list_all, AllByRecursion, cons_option}

-- no place is given, so the test passes
pub passed : {X : Type 0} (b : Bool) (x : X) → cond b None (Some x) ≡ None → b ≡ true
passed true x h = refl
passed false x h = absurd cc

-- no place is given, so the test fails, and no later place is given
pub not_met : {X : Type 0} (b : Bool) (x : X) (later : Option X) → cond b (Some x) later ≡ None → (b ≡ false) × (later ≡ None)
not_met true x later h = absurd cc
not_met false x later h = (refl, h)

module _ {X : Type 0} where
  -- what all of two lists pass, all of each pass
  pub all_append : (p : X → Bool) (xs ys : List X) → list_all p (xs ++ ys) ≡ true → (list_all p xs ≡ true) × (list_all p ys ≡ true)
  all_append p [] ys h = (refl, h)
  all_append p (x ∷ xs) ys h =
      let a = and_parts (p x) (list_all p (xs ++ ys)) h in
      let b = all_append p xs ys a.1 in
      (and_from (p x) (list_all p xs) a.0 b.0, b.1)

  -- what holds of each element, place by place, holds of each by recursion
  pub each_from : (P : X → Type 0) (xs : List X) → All P xs → AllByRecursion P xs
  each_from P [] h = tt
  each_from P (x ∷ xs) h = (h zero x (omega arith), each_from P xs (λ k d lt. h (suc k) d (omega arith)))

module _ {X : Type 0} where
  -- and the other way round
  pub all_from : (P : X → Type 0) (xs : List X) → AllByRecursion P xs → All P xs
  all_from P [] h k d lt = absurd (omega arith)
  all_from P (x ∷ xs) h zero d lt = h.0
  all_from P (x ∷ xs) h (suc k) d lt = all_from P xs h.1 k d (omega arith)

-- a test of what an element makes, if it makes something
abbrev pub passes : {Y : Type 0} → (Y → Bool) → Option Y → Bool
passes p None = true
passes p (Some y) = p y

module _ {X Y : Type 0} where
  -- what all that is made passes, all that each element makes passes
  pub all_flat : (p : Y → Bool) (f : X → List Y) (xs : List X) → list_all p (flat_map f xs) ≡ true → AllByRecursion (λ x. list_all p (f x) ≡ true) xs
  all_flat p f [] h = tt
  all_flat p f (x ∷ xs) h = let a = all_append p (f x) (flat_map f xs) h in (a.0, all_flat p f xs a.1)

  -- where what each element makes passes, all that is made passes
  pub all_made : (h : X → Option Y) (p : Y → Bool) (S : X → Type 0) → ((x : X) → S x → passes p (h x) ≡ true) → (xs : List X) → AllByRecursion S xs →
      list_all p (filter_map h xs) ≡ true
  all_made h p S each [] s = refl
  all_made h p S each (x ∷ xs) s = go (h x) (each x s.0) (all_made h p S each xs s.1)
    where
      go : (o : Option Y) → passes p o ≡ true → list_all p (filter_map h xs) ≡ true → list_all p (cons_option o (filter_map h xs)) ≡ true
      go None e r = r
      go (Some y) e r = and_from (p y) (list_all p (filter_map h xs)) e r
