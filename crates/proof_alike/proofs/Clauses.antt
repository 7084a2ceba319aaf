-- Clauses do the same where both are satisfied by what is known, or neither.
use Rattle.std.proofs.Common.{◌≡◌, inl, inr, ℕ, ◌<◌, ◌≤◌, ◌==◌, Bool, true, false, not, ◌&&◌, ◌||◌, cond, List, [], ◌∷◌, length, map, refl, sym, ap, ◌∙◌, subst, arith, ℤ, pos, Option, Some, None}
use Rattle.std.specs.Prelude.{slice_get, slice_index_or}
use Rattle.std.specs.List.{list_any, list_all}
use Rattle.std.specs.Ordering.{int_eq}
use Rattle.std.proofs.lemmas.Bool.Decides.{nat_tests}
use Rattle.std.proofs.lemmas.Int.{ints}
use Rattle.std.proofs.lemmas.Bool.{or_left, or_right, or_cases, and_left, and_right}
use Rattle.qc_model.specs.declared.problem.Arg.{Arg}
use Rattle.qc_model.specs.declared.problem.Arg.TheVariants.{Var, Num}
use Rattle.qc_model.specs.Arguments.{fill, many, variables_of}
use Rattle.qc_model.specs.Content.{Game, Rule}
use Rattle.qc_model.specs.Domains.{Values, Box, values_left, is_single, least_value}
use Rattle.qc_model.specs.Game.{before}
use Rattle.qc_model.specs.Holds.{arg_value, is_one, is_zero, holds_as}
use Rattle.qc_model.specs.Left.{is_only}
use Rattle.qc_model.specs.Meaning.{clause, meaning_of}
use Rattle.qc_model.specs.Refuted.{left_to, refuted_as}
use Rattle.proof_tree.specs.Place.{position}
use Rattle.proof_alike.specs.Alike.{is_among, is_looked_at, AreAlike}
use Rattle.proof_alike.specs.Reading.{as_clause, reading_of, known_value, is_known_as, is_satisfied, own_values}
use Rattle.proof_alike.proofs.Arrays.{items_of, many_filled}
use Rattle.proof_alike.proofs.Boxes.{Varied, SameRule}
use Rattle.proof_alike.proofs.ByValue.{same_by_value}
use Rattle.proof_alike.proofs.Meanings.{clause_only}
use Rattle.proof_alike.proofs.Positions.{early_value, has_value_at}
use Rattle.proof_alike.proofs.Starting.{early, least_same}

same_int : (m n : ℤ) → int_eq m n ≡ true → m ≡ n
same_int m n e = grind (arith, ints)

same_itself : (n : ℤ) → int_eq n n ≡ true
same_itself n = grind (arith, ints)

single_of : (vs : Values) (z : ℤ) → is_single vs ≡ true → least_value vs ≡ z → vs ≡ z ∷ []
single_of [] z h e = cc
single_of (v ∷ y ∷ vs) z h e = cc
single_of (v ∷ []) z h e = ap (λ y. y ∷ []) e

-- a box that leaves what a does to each variable that isn't looked at, of which each has one value
module _ (g : Game) (i : ℕ) (a u : Box) (single : (x : ℕ) → x < length a → is_looked_at g i x ≡ false → is_single (values_left a x) ≡ true)
    (kept : (x : ℕ) → is_looked_at g i x ≡ false → values_left u x ≡ values_left a x) where
  abbrev known : Arg → Option ℤ
  known x = known_value (λ y. not (is_looked_at g i y)) (position g i a) x

  -- a literal with the known value n
  record Literal (n : ℤ) (x : Arg) : Type 0 where
    left : left_to u x ≡ n ∷ []
    value : (k : ℕ) → before g i ≤ before g k → arg_value (position g k u) x ≡ n

  known_literal : (n : ℤ) (x : ℕ) (o : Option ℤ) → is_looked_at g i x ≡ false → slice_get (position g i a) x ≡ o → is_known_as n o ≡ true → values_left u x ≡ n ∷ []
  known_literal n x None q e h = cc
  known_literal n x (Some m) q e h =
      let r = has_value_at (before g i) x a m e in
      kept x q ∙ single_of (values_left a x) n (single x r.inside q) (r.least ∙ same_int m n h)

  literal : (n : ℤ) (x : Arg) → is_known_as n (known x) ≡ true → Literal n x
  literal n (Num m) h = record { left = ap (λ z. z ∷ []) (same_int m n h); value = λ k p. same_int m n h }
  literal n (Var x) h = by (is_looked_at g i x.0) refl h
    where
      later : (y k : ℕ) → y < before g i → before g i ≤ before g k → y < before g k
      later y k p q = omega arith

      by : (p : Bool) → is_looked_at g i x.0 ≡ p → is_known_as n (cond (not p) (slice_get (position g i a) x.0) None) ≡ true → Literal n (Var x)
      by true q e = cc
      by false q e =
          let r = known_literal n x.0 (slice_get (position g i a) x.0) q refl e in
          record { left = r; value = λ k p. early_value (before g k) x.0 u (later x.0 k (early g i x.0 q) p) ∙ ap least_value r }

  -- one of the literals has the known value n: not all have m alone
  not_only : (n m : ℤ) (xs : List Arg) → int_eq n m ≡ false → list_any (is_known_as n) (map known xs) ≡ true → list_all (is_only m) (map (left_to u) xs) ≡ false
  not_only n m [] d h = cc
  not_only n m (x ∷ xs) d h = elim (or_cases (is_known_as n (known x)) (list_any (is_known_as n) (map known xs)) h) [
    | inl k ↦ and_left (is_only m (left_to u x)) (list_all (is_only m) (map (left_to u) xs)) (ap (is_only m) (literal n x k).left ∙ d)
    | inr k ↦ and_right (is_only m (left_to u x)) (list_all (is_only m) (map (left_to u) xs)) (not_only n m xs d k)
  ]

  -- and one has the value at each later position
  some_value : (n : ℤ) (k : ℕ) (xs : List Arg) → before g i ≤ before g k → list_any (is_known_as n) (map known xs) ≡ true → list_any (λ z. int_eq z n) (map (arg_value (position g k u)) xs) ≡ true
  some_value n k [] p h = cc
  some_value n k (x ∷ xs) p h = elim (or_cases (is_known_as n (known x)) (list_any (is_known_as n) (map known xs)) h) [
    | inl e ↦
        or_left (int_eq (arg_value (position g k u) x) n) (list_any (λ z. int_eq z n) (map (arg_value (position g k u)) xs))
        (ap (λ z. int_eq z n) ((literal n x e).value k p) ∙ same_itself n)
    | inr e ↦ or_right (int_eq (arg_value (position g k u) x) n) (list_any (λ z. int_eq z n) (map (arg_value (position g k u)) xs)) (some_value n k xs p e)
  ]

  abbrev items : Rule → ℕ → List Arg
  items c k = items_of (slice_get c.args k)

  satisfied_by : (c : Rule) → is_satisfied (λ y. not (is_looked_at g i y)) (position g i a) c ≡ (list_any (is_known_as (pos 1)) (map known (items c 0)) || list_any (is_known_as (pos 0)) (map known (items c 1)))
  satisfied_by c =
      ap (λ xs. list_any (is_known_as (pos 1)) xs || list_any (is_known_as (pos 0)) (many (map (fill known) c.args) 1)) (many_filled known c.args 0)
      ∙ ap (λ xs. list_any (is_known_as (pos 1)) (map known (items c 0)) || list_any (is_known_as (pos 0)) xs) (many_filled known c.args 1)

  abbrev Satisfied : Rule → Type 0
  Satisfied c = is_satisfied (λ y. not (is_looked_at g i y)) (position g i a) c ≡ true

  pub satisfied_stays : (c : Rule) → Satisfied c → refuted_as clause (map (fill (left_to u)) c.args) ≡ false
  satisfied_stays c h =
      ap (λ xs. list_all (is_only (pos 0)) xs && list_all (is_only (pos 1)) (many (map (fill (left_to u)) c.args) 1)) (many_filled (left_to u) c.args 0)
      ∙ ap (λ xs. list_all (is_only (pos 0)) (map (left_to u) (items c 0)) && list_all (is_only (pos 1)) xs) (many_filled (left_to u) c.args 1)
      ∙ elim (or_cases (list_any (is_known_as (pos 1)) (map known (items c 0))) (list_any (is_known_as (pos 0)) (map known (items c 1))) (sym (satisfied_by c) ∙ h)) [
        | inl k ↦ and_left (list_all (is_only (pos 0)) (map (left_to u) (items c 0))) (list_all (is_only (pos 1)) (map (left_to u) (items c 1))) (not_only (pos 1) (pos 0) (items c 0) refl k)
        | inr k ↦ and_right (list_all (is_only (pos 0)) (map (left_to u) (items c 0))) (list_all (is_only (pos 1)) (map (left_to u) (items c 1))) (not_only (pos 0) (pos 1) (items c 1) refl k)
      ]

  pub satisfied_holds : (c : Rule) (k : ℕ) → Satisfied c → before g i ≤ before g k → holds_as clause (map (fill (arg_value (position g k u))) c.args) ≡ true
  satisfied_holds c k h p =
      let f = arg_value (position g k u) in
      ap (λ xs. list_any is_one xs || list_any is_zero (many (map (fill f) c.args) 1)) (many_filled f c.args 0)
      ∙ ap (λ xs. list_any is_one (map f (items c 0)) || list_any is_zero xs) (many_filled f c.args 1)
      ∙ elim (or_cases (list_any (is_known_as (pos 1)) (map known (items c 0))) (list_any (is_known_as (pos 0)) (map known (items c 1))) (sym (satisfied_by c) ∙ h)) [
        | inl e ↦ or_left (list_any is_one (map f (items c 0))) (list_any is_zero (map f (items c 1))) (some_value (pos 1) k (items c 0) p e)
        | inr e ↦ or_right (list_any is_one (map f (items c 0))) (list_any is_zero (map f (items c 1))) (some_value (pos 0) k (items c 1) p e)
      ]

equal_numbers : (j k : ℕ) → (j == k) ≡ true → j ≡ k
equal_numbers j k e = grind (arith, nat_tests)

-- two functions that do the same at each of the numbers
same_at : (f h : ℕ → ℤ) (xs : List ℕ) (x : ℕ) → map f xs ≡ map h xs → is_among xs x ≡ true → f x ≡ h x
same_at f h [] x e m = cc
same_at f h (y ∷ xs) x e m = elim (or_cases (y == x) (is_among xs x) m) [
  | inl q ↦ subst (λ z. f z ≡ h z) (equal_numbers y x q) (first_same (f y) (h y) (map f xs) (map h xs) e)
  | inr n ↦ same_at f h xs x (rest_same (f y) (h y) (map f xs) (map h xs) e) n
]
  where
    first_same : (p q : ℤ) (ps qs : List ℤ) → p ∷ ps ≡ q ∷ qs → p ≡ q
    first_same p q ps qs e = cc

    rest_same : (p q : ℤ) (ps qs : List ℤ) → p ∷ ps ≡ q ∷ qs → ps ≡ qs
    rest_same p q ps qs e = cc

none_of : (f : ℕ → ℤ) (xs : List ℕ) (x : ℕ) → map f xs ≡ [] → is_among xs x ≡ true → ⊥
none_of f [] x e m = cc
none_of f (y ∷ xs) x e m = cc

module _ (g : Game) (i : ℕ) (a b : Box) (l : AreAlike g i a b) (u w : Box) (v : Varied g i a b u w) (c : Rule) where
  first_single : (x : ℕ) → x < length a → is_looked_at g i x ≡ false → is_single (values_left a x) ≡ true
  first_single x n q = (l.others x n q).0

  second_single : (x : ℕ) → x < length b → is_looked_at g i x ≡ false → is_single (values_left b x) ≡ true
  second_single x n q = (l.others x (subst (λ m. x < m) (sym l.size) n) q).1

  both_satisfied : reading_of (meaning_of c.pred) ≡ as_clause → Satisfied g i a u first_single v.first c → Satisfied g i b w second_single v.second c → SameRule g i c u w
  both_satisfied e s t =
      let m = clause_only (meaning_of c.pred) e in
      record {
        refutes = subst (λ n. refuted_as n (map (fill (left_to u)) c.args) ≡ refuted_as n (map (fill (left_to w)) c.args)) (sym m)
            (satisfied_stays g i a u first_single v.first c s ∙ sym (satisfied_stays g i b w second_single v.second c t));
        holds = λ k p. subst (λ n. holds_as n (map (fill (arg_value (position g k u))) c.args) ≡ holds_as n (map (fill (arg_value (position g k w))) c.args)) (sym m)
            (satisfied_holds g i a u first_single v.first c k s p ∙ sym (satisfied_holds g i b w second_single v.second c k t p));
      }

  -- the variables have the same values in both
  same_left : own_values (position g i a) c ≡ own_values (position g i b) c → (x : ℕ) → is_among (variables_of c.args) x ≡ true → values_left u x ≡ values_left w x
  same_left e x m = by (is_looked_at g i x) refl
    where
      by : (p : Bool) → is_looked_at g i x ≡ p → values_left u x ≡ values_left w x
      by true q = v.same x q
      by false q =
          let s = same_at (λ y. slice_index_or (position g i a) y (pos 0)) (λ y. slice_index_or (position g i b) y (pos 0)) (variables_of c.args) x e m in
          v.first x q
          ∙ least_same g i a b l x q (sym (early_value (before g i) x a (early g i x q)) ∙ s ∙ early_value (before g i) x b (early g i x q))
          ∙ sym (v.second x q)

  no_variable : (vs : List ℤ) → own_values vs c ≡ [] → (x : ℕ) → is_among (variables_of c.args) x ≡ true → values_left u x ≡ values_left w x
  no_variable vs e x m = absurd (none_of (λ y. slice_index_or vs y (pos 0)) (variables_of c.args) x e m)

  pub same_clause : reading_of (meaning_of c.pred) ≡ as_clause →
      cond (is_satisfied (λ y. not (is_looked_at g i y)) (position g i a) c) [] (own_values (position g i a) c) ≡ cond (is_satisfied (λ y. not (is_looked_at g i y)) (position g i b) c) [] (own_values (position g i b) c) →
      SameRule g i c u w
  same_clause e h = by (is_satisfied (λ y. not (is_looked_at g i y)) (position g i a) c) (is_satisfied (λ y. not (is_looked_at g i y)) (position g i b) c) refl refl h
    where
      by : (s t : Bool) → is_satisfied (λ y. not (is_looked_at g i y)) (position g i a) c ≡ s → is_satisfied (λ y. not (is_looked_at g i y)) (position g i b) c ≡ t →
          cond s [] (own_values (position g i a) c) ≡ cond t [] (own_values (position g i b) c) → SameRule g i c u w
      by true true p q k = both_satisfied e p q
      by true false p q k = same_by_value g i c u w (no_variable (position g i b) (sym k))
      by false true p q k = same_by_value g i c u w (no_variable (position g i a) k)
      by false false p q k = same_by_value g i c u w (same_left k)
