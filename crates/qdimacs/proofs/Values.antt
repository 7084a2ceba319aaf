-- What a formula's clauses make of values of its variables is what the game's constraints make of a position.
use Rattle.std.proofs.Common.{◌≡◌, refl, sym, ap, ◌∙◌, ℕ, zero, suc, Bool, true, false, not, ◌&&◌, ◌||◌, cond, List, [], ◌∷◌, map, filter, get_or, inl, inr, ℤ}
use Rattle.std.specs.Prelude.{⊤, ◌==◌, pos}
use Rattle.std.specs.List.{list_any, list_all}
use Rattle.qc_model.specs.Lists.{Among}
use Rattle.qc_model.specs.Holds.{is_one, is_zero, arg_value, holds_on}
use Rattle.qdimacs.specs.Formula.{Literal, is_true_literal, are_true_clauses}
use Rattle.qdimacs.specs.Content.{place, arg_of, rule_of, positives, negatives}

abbrev pub bits : List ℤ
bits = pos 0 ∷ pos 1 ∷ []

-- each value is 0 or 1
abbrev pub AreBits : List ℤ → Type 0
AreBits [] = ⊤
AreBits (v ∷ vs) = Among v bits × AreBits vs

-- the truth of a variable where the first variables in order have these values
abbrev pub valued : List ℕ → List ℤ → ℕ → Bool
valued [] [] y = false
valued [] (v ∷ vs) y = is_one v
valued (x ∷ xs) [] y = false
valued (x ∷ xs) (v ∷ vs) y = cond (y == x) (is_one v) (valued xs vs y)

one_at : (v : ℤ) (vs : List ℤ) (k : ℕ) (b r : Bool) → is_one (get_or vs k (pos 0)) ≡ r → is_one (get_or (v ∷ vs) (cond b 0 (suc k)) (pos 0)) ≡ cond b (is_one v) r
one_at v vs k true r h = refl
one_at v vs k false r h = h

pub one_is : (xs : List ℕ) (vs : List ℤ) (y : ℕ) → is_one (get_or vs (place y xs) (pos 0)) ≡ valued xs vs y
one_is [] [] y = refl
one_is [] (v ∷ vs) y = refl
one_is (x ∷ xs) [] y = go (y == x)
  where
    go : (b : Bool) → is_one (get_or [] (cond b 0 (suc (place y xs))) (pos 0)) ≡ false
    go true = refl
    go false = refl
one_is (x ∷ xs) (v ∷ vs) y = one_at v vs (place y xs) (y == x) (valued xs vs y) (one_is xs vs y)

bit_is : (v : ℤ) → Among v bits → is_zero v ≡ not (is_one v)
bit_is v m = elim m [ inl e ↦ ap is_zero e ∙ sym (ap (λ w. not (is_one w)) e) | inr n ↦ elim n [ inl e ↦ ap is_zero e ∙ sym (ap (λ w. not (is_one w)) e) | inr o ↦ absurd o ] ]

zero_is : (vs : List ℤ) (k : ℕ) → AreBits vs → is_zero (get_or vs k (pos 0)) ≡ not (is_one (get_or vs k (pos 0)))
zero_is [] k h = refl
zero_is (v ∷ vs) zero h = bit_is v h.0
zero_is (v ∷ vs) (suc k) h = zero_is vs k h.1

module _ (xs : List ℕ) (a : List ℤ) (are_bits : AreBits a) where
  -- the two arrays of a clause
  abbrev any_one : List Literal → Bool
  any_one ls = list_any is_one (map (arg_value a) (map (arg_of (λ y. place y xs)) (positives ls)))

  abbrev any_zero : List Literal → Bool
  any_zero ls = list_any is_zero (map (arg_value a) (map (arg_of (λ y. place y xs)) (negatives ls)))

  arrays_are : (ls : List Literal) → (any_one ls || any_zero ls) ≡ list_any (is_true_literal (valued xs a)) ls
  arrays_are [] = refl
  arrays_are (l ∷ ls) = go l.positive refl (arrays_are ls)
    where
      either : (p q r s : Bool) → (q || r) ≡ s → ((p || q) || r) ≡ (p || s)
      either true q r s h = refl
      either false q r s h = h

      other : (p q r s : Bool) → (q || r) ≡ s → (q || (p || r)) ≡ (p || s)
      other true true r s h = refl
      other true false r s h = refl
      other false q r s h = h

      go : (b : Bool) → l.positive ≡ b → (any_one ls || any_zero ls) ≡ list_any (is_true_literal (valued xs a)) ls →
          (list_any is_one (map (arg_value a) (map (arg_of (λ y. place y xs)) (map (λ (k : Literal). k.variable) (cond b (l ∷ filter (λ (k : Literal). k.positive) ls) (filter (λ (k : Literal). k.positive) ls)))))
          || list_any is_zero (map (arg_value a) (map (arg_of (λ y. place y xs)) (map (λ (k : Literal). k.variable) (cond (not b) (l ∷ filter (λ (k : Literal). not k.positive) ls) (filter (λ (k : Literal). not k.positive) ls))))))
          ≡ (cond b (valued xs a l.variable) (not (valued xs a l.variable)) || list_any (is_true_literal (valued xs a)) ls)
      go true e h =
          either (is_one (get_or a (place l.variable xs) (pos 0))) (any_one ls) (any_zero ls) (list_any (is_true_literal (valued xs a)) ls) h
          ∙ ap (λ b. b || list_any (is_true_literal (valued xs a)) ls) (one_is xs a l.variable)
      go false e h =
          other (is_zero (get_or a (place l.variable xs) (pos 0))) (any_one ls) (any_zero ls) (list_any (is_true_literal (valued xs a)) ls) h
          ∙ ap (λ b. b || list_any (is_true_literal (valued xs a)) ls) (zero_is a (place l.variable xs) are_bits ∙ ap not (one_is xs a l.variable))

  pub clauses_are : (i : ℕ) (cs : List (List Literal)) → list_all (λ c. holds_on c a) (map (rule_of i (λ y. place y xs)) cs) ≡ are_true_clauses cs (valued xs a)
  clauses_are i [] = refl
  clauses_are i (c ∷ cs) =
      ap (λ b. b && list_all (λ c. holds_on c a) (map (rule_of i (λ y. place y xs)) cs)) (arrays_are c)
      ∙ ap (λ b. list_any (is_true_literal (valued xs a)) c && b) (clauses_are i cs)
