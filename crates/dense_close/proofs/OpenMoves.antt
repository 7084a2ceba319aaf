-- Moves that may have no answer.
use Rattle.std.proofs.Common.{◌≡◌, ◌<◌, ◌≤◌, ◌+◌, ◌-◌, ℕ, zero, suc, Bool, true, false, ◌||◌, List, [], ◌∷◌, length, take, drop, get_or, refl, sym, ap, ◌∙◌, subst, arith}
use Rattle.std.specs.Prelude.{slice_get, Some}
use Rattle.std.specs.List.{list_any}
use Rattle.qc_model.specs.declared.problem.VarId.{VarId}
use Rattle.model_arguments.specs.Written.{variable_numbers}
use Rattle.std.proofs.lemmas.Option.{same_Some}
use Rattle.qc_model.specs.declared.problem.Scope.{Scope}
use Rattle.qc_model.specs.Content.{Rule}
use Rattle.qc_model.specs.Domains.{Box}
use Rattle.dense_tree.specs.Free.{is_universal}
use Rattle.dense_tree.specs.InPlace as dense
use Rattle.dense_tree.specs.Place.{Setting, Place}
use Rattle.dense_close.specs.Answerless.{is_open_move, is_answerless}

-- a scope of the opponent is there
pub universal_there : (ss : List Scope) (i : ℕ) → is_universal (slice_get ss i) ≡ true → i < length ss
universal_there [] i h = cc
universal_there (s ∷ ss) zero h = omega arith
universal_there (s ∷ ss) (suc i) h = let l = universal_there ss i h in omega arith

-- the words are those of dense trees
pub same_moves : (s : Setting) (i x : ℕ) → dense.is_open_move s i x ≡ is_open_move s.game i x
same_moves s i x = refl

pub same_answerless : (s : Setting) (p : Place) (box : Box) (c : Rule) → dense.is_answerless s p box c ≡ is_answerless s.game p.number box c
same_answerless s p box c = refl

-- one variable more
none_suc : (p : ℕ → Bool) (xs : List VarId) (i : ℕ) (d : VarId) → i < length xs → list_any p (variable_numbers (take i xs)) ≡ false → p (get_or xs i d).0 ≡ false → list_any p (variable_numbers (take (suc i) xs)) ≡ false
none_suc p [] i d l h e = absurd (omega arith)
none_suc p (x ∷ xs) zero d l h e = ap (λ b. b || false) e
none_suc p (x ∷ xs) (suc i) d l h e = by (p x.0) h (none_suc p xs i d (omega arith))
  where
    by : (b : Bool) → (b || list_any p (variable_numbers (take i xs))) ≡ false → (list_any p (variable_numbers (take i xs)) ≡ false → p (get_or xs i d).0 ≡ false → list_any p (variable_numbers (take (suc i) xs)) ≡ false) →
        (b || list_any p (variable_numbers (take (suc i) xs))) ≡ false
    by true h f = cc
    by false h f = f h e

pub none_more : (p : ℕ → Bool) (xs : List VarId) (i : ℕ) (d : VarId) → i < length xs → list_any p (variable_numbers (take i xs)) ≡ false → p (get_or xs i d).0 ≡ false → list_any p (variable_numbers (take (i + 1) xs)) ≡ false
none_more p xs i d l h e = ap (λ n. list_any p (variable_numbers (take n xs))) (one_more i) ∙ none_suc p xs i d l h e
  where
    one_more : (i : ℕ) → i + 1 ≡ suc i
    one_more i = omega arith

pub any_at : (p : ℕ → Bool) (xs : List VarId) (i : ℕ) (d : VarId) → i < length xs → p (get_or xs i d).0 ≡ true → list_any p (variable_numbers xs) ≡ true
any_at p [] i d l e = absurd (omega arith)
any_at p (x ∷ xs) zero d l e = ap (λ b. b || list_any p (variable_numbers xs)) e
any_at p (x ∷ xs) (suc i) d l e = ap (λ b. p x.0 || b) (any_at p xs i d (omega arith) e) ∙ either (p x.0)
  where
    either : (b : Bool) → (b || true) ≡ true
    either true = refl
    either false = refl

-- none of a span, and one of it
none_taken : (p : Rule → Bool) (n : ℕ) (cs : List Rule) → ((j : ℕ) (c : Rule) → j < n → slice_get cs j ≡ Some c → p c ≡ false) → list_any p (take n cs) ≡ false
none_taken p zero cs h = refl
none_taken p (suc n) [] h = refl
none_taken p (suc n) (c ∷ cs) h = ap (λ b. b || list_any p (take n cs)) (h 0 c (omega arith) refl) ∙ none_taken p n cs (λ j d l e. h (suc j) d (omega arith) e)

less_none : (n : ℕ) → n - 0 ≡ n
less_none n = omega arith

less_one : (n m : ℕ) → suc n - suc m ≡ n - m
less_one n m = omega arith

none_less : (m : ℕ) → 0 - suc m ≡ 0
none_less m = omega arith

pub none_between : (p : Rule → Bool) (first end : ℕ) (cs : List Rule) → ((j : ℕ) (c : Rule) → first ≤ j → j < end → slice_get cs j ≡ Some c → p c ≡ false) → list_any p (take (end - first) (drop first cs)) ≡ false
none_between p zero end cs h = ap (λ n. list_any p (take n cs)) (less_none end) ∙ none_taken p end cs (λ j c l e. h j c (omega arith) l e)
none_between p (suc first) end [] h = nothing (end - suc first)
  where
    nothing : (n : ℕ) → list_any p (take n []) ≡ false
    nothing zero = refl
    nothing (suc n) = refl
none_between p (suc first) zero (c ∷ cs) h = ap (λ n. list_any p (take n (drop first cs))) (none_less first)
none_between p (suc first) (suc end) (c ∷ cs) h = ap (λ n. list_any p (take n (drop first cs))) (less_one end first) ∙ none_between p first end cs (λ j d l m e. h (suc j) d (omega arith) (omega arith) e)

any_taken : (p : Rule → Bool) (n k : ℕ) (cs : List Rule) (c : Rule) → k < n → slice_get cs k ≡ Some c → p c ≡ true → list_any p (take n cs) ≡ true
any_taken p zero k cs c l e h = absurd (omega arith)
any_taken p (suc n) k [] c l e h = cc
any_taken p (suc n) zero (d ∷ cs) c l e h = ap (λ b. b || list_any p (take n cs)) (subst (λ r. p r ≡ true) (sym (same_Some d c e)) h)
any_taken p (suc n) (suc k) (d ∷ cs) c l e h = ap (λ b. p d || b) (any_taken p n k cs c (omega arith) e h) ∙ either (p d)
  where
    either : (b : Bool) → (b || true) ≡ true
    either true = refl
    either false = refl

pub any_between : (p : Rule → Bool) (first end k : ℕ) (cs : List Rule) (c : Rule) → first ≤ k → k < end → slice_get cs k ≡ Some c → p c ≡ true → list_any p (take (end - first) (drop first cs)) ≡ true
any_between p zero end k cs c l m e h = ap (λ n. list_any p (take n cs)) (less_none end) ∙ any_taken p end k cs c m e h
any_between p (suc first) end k [] c l m e h = cc
any_between p (suc first) zero k (d ∷ cs) c l m e h = absurd (omega arith)
any_between p (suc first) (suc end) zero (d ∷ cs) c l m e h = absurd (omega arith)
any_between p (suc first) (suc end) (suc k) (d ∷ cs) c l m e h = ap (λ n. list_any p (take n (drop first cs))) (less_one end first) ∙ any_between p first end k cs c (omega arith) (omega arith) e h
