-- Tests of each element and the next, as recursions on the list.
use Rattle.std.proofs.Common.{◌≡◌, ◌∙◌, ap, subst, refl, ◌<◌, ◌+◌, ◌-◌, ℕ, zero, suc, Bool, true, false, ◌&&◌, List, [], ◌∷◌, length, map, get_or, arith, ℤ}
use Rattle.std.specs.Prelude.{nat_lt, nat_le, int_lt}
use Rattle.std.specs.List.{IsAllAdjacentAnswer, AllAdjacentBelow}
use Rattle.qc_model.specs.Domains.{is_ascending}
use Rattle.qc_model.specs.Valid.{is_in_order}

next : (k : ℕ) → suc k + 1 ≡ suc (k + 1)
next k = omega arith

module _ {X : Type 0} (e : X → X → Bool) where
  -- each element and the next pass the test
  abbrev pub adjacent : List X → Bool
  adjacent [] = true
  adjacent (x ∷ []) = true
  adjacent (x ∷ y ∷ xs) = e x y && adjacent (y ∷ xs)

  both_true : (a b : Bool) → true ≡ a → true ≡ b → true ≡ (a && b)
  both_true true true p q = refl
  both_true true false p q = q
  both_true false b p q = p

  first_false : (a b : Bool) → false ≡ a → false ≡ (a && b)
  first_false true b p = absurd cc
  first_false false b p = refl

  second_false : (a b : Bool) → false ≡ b → false ≡ (a && b)
  second_false true b p = p
  second_false false b p = refl

  all_pass : (xs : List X) → AllAdjacentBelow (λ x y. true ≡ e x y) xs (length xs) → true ≡ adjacent xs
  all_pass [] h = refl
  all_pass (x ∷ []) h = refl
  all_pass (x ∷ y ∷ xs) h =
      both_true (e x y) (adjacent (y ∷ xs)) (h 0 x (omega arith))
      (all_pass (y ∷ xs) (λ k d lt. subst (λ (m : ℕ). true ≡ e (get_or (y ∷ xs) k d) (get_or (x ∷ y ∷ xs) m d)) (next k) (h (suc k) d (omega arith))))

  some_fails : (xs : List X) (k : ℕ) → k + 1 < length xs → ((d : X) → false ≡ e (get_or xs k d) (get_or xs (k + 1) d)) → false ≡ adjacent xs
  some_fails [] k lt h = absurd (omega arith)
  some_fails (x ∷ []) k lt h = absurd (omega arith)
  some_fails (x ∷ y ∷ xs) zero lt h = first_false (e x y) (adjacent (y ∷ xs)) (h x)
  some_fails (x ∷ y ∷ xs) (suc k) lt h =
      second_false (e x y) (adjacent (y ∷ xs))
      (some_fails (y ∷ xs) k (omega arith) (λ d. subst (λ (m : ℕ). false ≡ e (get_or (y ∷ xs) k d) (get_or (x ∷ y ∷ xs) m d)) (next k) (h d)))

  -- what `is_sorted_by` answers
  pub adjacent_answer : (xs : List X) (r : Bool) → IsAllAdjacentAnswer (λ x y b. b ≡ e x y) xs r → r ≡ adjacent xs
  adjacent_answer xs true h = all_pass xs h
  adjacent_answer xs false h = some_fails xs h.0 h.1 h.2

pub adjacent_ascends : (ns : List ℤ) → adjacent int_lt ns ≡ is_ascending ns
adjacent_ascends [] = refl
adjacent_ascends (v ∷ []) = refl
adjacent_ascends (v ∷ w ∷ vs) = ap (λ b. int_lt v w && b) (adjacent_ascends (w ∷ vs))

module _ {X : Type 0} (f : X → ℕ) where
  -- in order, and the last is below n
  pub in_order-last : (n : ℕ) (xs : List X) (d : X) → 0 < length xs → true ≡ adjacent (λ x y. nat_le (f x) (f y)) xs → nat_lt (f (get_or xs (length xs - 1) d)) n ≡ is_in_order n (map f xs)
  in_order-last n [] d lt h = absurd (omega arith)
  in_order-last n (x ∷ []) d lt h = refl
  in_order-last n (x ∷ y ∷ xs) d lt h = split (nat_le (f x) (f y)) (adjacent (λ x y. nat_le (f x) (f y)) (y ∷ xs)) h (in_order-last n (y ∷ xs) d (omega arith))
    where
      last_place : length (x ∷ y ∷ xs) - 1 ≡ suc (length (y ∷ xs) - 1)
      last_place = omega arith

      split : (a b : Bool) → true ≡ (a && b) → (true ≡ b → nat_lt (f (get_or (y ∷ xs) (length (y ∷ xs) - 1) d)) n ≡ is_in_order n (map f (y ∷ xs))) → nat_lt (f (get_or (x ∷ y ∷ xs) (length (x ∷ y ∷ xs) - 1) d)) n ≡ (a && is_in_order n (map f (y ∷ xs)))
      split true b h more = ap (λ m. nat_lt (f (get_or (x ∷ y ∷ xs) m d)) n) last_place ∙ more h
      split false b h more = absurd cc

  pub out_of_order : (n : ℕ) (xs : List X) → false ≡ adjacent (λ x y. nat_le (f x) (f y)) xs → false ≡ is_in_order n (map f xs)
  out_of_order n [] h = absurd cc
  out_of_order n (x ∷ []) h = absurd cc
  out_of_order n (x ∷ y ∷ xs) h = split (nat_le (f x) (f y)) (adjacent (λ x y. nat_le (f x) (f y)) (y ∷ xs)) h (out_of_order n (y ∷ xs))
    where
      split : (a b : Bool) → false ≡ (a && b) → (false ≡ b → false ≡ is_in_order n (map f (y ∷ xs))) → false ≡ (a && is_in_order n (map f (y ∷ xs)))
      split true b h more = more h
      split false b h more = refl
