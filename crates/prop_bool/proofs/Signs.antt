-- Literals of the head's variable that have its sign.
use Rattle.std.proofs.Common.{◌≡◌, ◌<◌, ℕ, Bool, true, false, not, ◌&&◌, ◌||◌, cond, List, [], ◌∷◌, length, map, set, refl, sym, ap, ◌∙◌, ℤ}
use Rattle.std.specs.Prelude.{pos}
use Rattle.std.specs.List.{list_all, list_any}
use Rattle.std.specs.Ordering.{int_eq}
use Rattle.std.proofs.lemmas.List.Folds.{list_all-append}
use Rattle.std.proofs.lemmas.Bool.{or_left, or_right, and_from}
use Rattle.qc_model.specs.declared.problem.Arg.{Arg}
use Rattle.qc_model.specs.Domains.{Box, has_value}
use Rattle.qc_model.specs.Holds.{same_truth}
use Rattle.qc_model.specs.Left.{is_only}
use Rattle.qc_model.specs.Refuted.{left_to}
use Rattle.qc_model.specs.Valid.{is_truth}
use Rattle.qc_model.proofs.Readable.{first, second}
use Rattle.model_arguments.specs.Repeats.{is_variable, same_variable}
use Rattle.prop_bool.specs.declared.literals.Literal.{Literal}
use Rattle.prop_bool.specs.Literals.{truth_number, both_truths, surely_holds, surely_fails, plain, negated, literals, is_opposed}
use Rattle.prop_bool.proofs.Adding.{holds_not_fails, fails_not_holds, both_of, truth_is}
use Rattle.prop_bool.proofs.Fixing.{left_other, left_there}
use Rattle.prop_bool.proofs.Truths.{by_number, is_one}

truth_value : (v : ℤ) → has_value both_truths v ≡ true → is_truth v ≡ true
truth_value v h = by (int_eq v (pos 0)) (int_eq v (pos 1)) h
  where
    by : (a b : Bool) → (a || (b || false)) ≡ true → (a || b) ≡ true
    by true b k = refl
    by false true k = refl
    by false false k = cc

-- the literals of this variable have the sign of the head
abbrev pub agrees : Literal → Literal → Bool
agrees h l = not (same_variable h.arg l.arg) || same_truth h.positive l.positive

all_agree : (h : Literal) (f : Arg → Literal) → ((a : Arg) → (f a).arg ≡ a) → ((a : Arg) → (f a).positive ≡ h.positive) → (xs : List Arg) → list_all (agrees h) (map f xs) ≡ true
all_agree h f e p [] = refl
all_agree h f e p (a ∷ xs) = and_from (agrees h (f a)) (list_all (agrees h) (map f xs)) (or_right (not (same_variable h.arg (f a).arg)) (same_truth h.positive (f a).positive) (ap (same_truth h.positive) (p a) ∙ alike h.positive)) (all_agree h f e p xs)
  where
    alike : (b : Bool) → same_truth b b ≡ true
    alike true = refl
    alike false = refl

none_agree : (h : Literal) (f : Arg → Literal) → ((a : Arg) → (f a).arg ≡ a) → (xs : List Arg) → list_any (same_variable h.arg) xs ≡ false → list_all (agrees h) (map f xs) ≡ true
none_agree h f e [] k = refl
none_agree h f e (a ∷ xs) k =
    and_from (agrees h (f a)) (list_all (agrees h) (map f xs))
    (ap (λ z. not (same_variable h.arg z) || same_truth h.positive (f a).positive) (e a) ∙ ap (λ b. not b || same_truth h.positive (f a).positive) (this (same_variable h.arg a) (list_any (same_variable h.arg) xs) k))
    (none_agree h f e xs (that (same_variable h.arg a) (list_any (same_variable h.arg) xs) k))
  where
    this : (a b : Bool) → (a || b) ≡ false → a ≡ false
    this true b h = cc
    this false b h = refl

    that : (a b : Bool) → (a || b) ≡ false → b ≡ false
    that true b h = cc
    that false b h = h

pub not_opposed : (h : Literal) (xs ys : List Arg) → is_opposed xs ys h ≡ false → list_all (agrees h) (literals xs ys) ≡ true
not_opposed h xs ys k =
    list_all-append (agrees h) (map plain xs) (map negated ys)
    ∙ by h.positive refl k
  where
    by : (b : Bool) → h.positive ≡ b → cond b (list_any (same_variable h.arg) ys) (list_any (same_variable h.arg) xs) ≡ false → (list_all (agrees h) (map plain xs) && list_all (agrees h) (map negated ys)) ≡ true
    by true e n = and_from (list_all (agrees h) (map plain xs)) (list_all (agrees h) (map negated ys)) (all_agree h plain (λ a. refl) (λ a. sym e) xs) (none_agree h negated (λ a. refl) ys n)
    by false e n = and_from (list_all (agrees h) (map plain xs)) (list_all (agrees h) (map negated ys)) (none_agree h plain (λ a. refl) xs n) (all_agree h negated (λ a. refl) (λ a. sym e) ys)

-- two tests of the same literals
pub all_both : (p q r : Literal → Bool) → ((l : Literal) → p l ≡ true → q l ≡ true → r l ≡ true) → (ls : List Literal) → list_all p ls ≡ true → list_all q ls ≡ true → list_all r ls ≡ true
all_both p q r f [] h k = refl
all_both p q r f (l ∷ ls) h k =
    and_from (r l) (list_all r ls) (f l (first (p l) (list_all p ls) h) (first (q l) (list_all q ls) k)) (all_both p q r f ls (second (p l) (list_all p ls) h) (second (q l) (list_all q ls) k))

pub any_both : (p q r : Literal → Bool) → ((l : Literal) → p l ≡ true → q l ≡ true → r l ≡ true) → (ls : List Literal) → list_all p ls ≡ true → list_any q ls ≡ true → list_any r ls ≡ true
any_both p q r f [] h k = cc
any_both p q r f (l ∷ ls) h k = by (q l) (f l (first (p l) (list_all p ls) h)) (λ e. any_both p q r f ls (second (p l) (list_all p ls) h) e) k
  where
    by : (b : Bool) → (b ≡ true → r l ≡ true) → (list_any q ls ≡ true → list_any r ls ≡ true) → (b || list_any q ls) ≡ true → (r l || list_any r ls) ≡ true
    by true g i e = or_left (r l) (list_any r ls) (g refl)
    by false g i e = or_right (r l) (list_any r ls) (i e)

pub by_value : (P : ℤ → Type 0) (b : Bool) → P (truth_number b) → P (truth_number (not b)) → (v : ℤ) → has_value both_truths v ≡ true → P v
by_value P true p q v h = by_number P q p v (truth_value v h)
by_value P false p q v h = by_number P p q v (truth_value v h)

sign_of : (h l : Literal) → agrees h l ≡ true → same_variable h.arg l.arg ≡ true → h.positive ≡ l.positive
sign_of h l a s = truth_is h.positive l.positive (by (same_variable h.arg l.arg) s a)
  where
    by : (b : Bool) → b ≡ true → (not b || same_truth h.positive l.positive) ≡ true → same_truth h.positive l.positive ≡ true
    by true e k = k
    by false e k = cc

-- giving the head's variable the value that makes the head hold makes no literal fail
pub back_fails : (box : Box) (y : ℕ) (h l : Literal) → is_variable h.arg y ≡ true → y < length box → agrees h l ≡ true → surely_fails (set box y (truth_number h.positive ∷ [])) l ≡ true → surely_fails box l ≡ true
back_fails box y h l i p a f = by (is_variable l.arg y) refl
  where
    new : Box
    new = set box y (truth_number h.positive ∷ [])

    by : (b : Bool) → is_variable l.arg y ≡ b → surely_fails box l ≡ true
    by false e = ap (is_only (truth_number (not l.positive))) (sym (left_other box y (truth_number h.positive ∷ []) l.arg e)) ∙ f
    by true e =
        let s = sign_of h l a (both_of h.arg l.arg y i e) in
        let w : surely_holds new l ≡ true = is_one (truth_number l.positive) (left_to new l.arg) (left_there box y (truth_number h.positive ∷ []) l.arg e p ∙ ap (λ b. truth_number b ∷ []) s) in
        let z = sym (holds_not_fails new l w) ∙ f in cc

-- nor the other value one hold
pub back_holds : (box : Box) (y : ℕ) (h l : Literal) → is_variable h.arg y ≡ true → y < length box → agrees h l ≡ true → surely_holds (set box y (truth_number (not h.positive) ∷ [])) l ≡ true → surely_holds box l ≡ true
back_holds box y h l i p a f = by (is_variable l.arg y) refl
  where
    new : Box
    new = set box y (truth_number (not h.positive) ∷ [])

    by : (b : Bool) → is_variable l.arg y ≡ b → surely_holds box l ≡ true
    by false e = ap (is_only (truth_number l.positive)) (sym (left_other box y (truth_number (not h.positive) ∷ []) l.arg e)) ∙ f
    by true e =
        let s = sign_of h l a (both_of h.arg l.arg y i e) in
        let w : surely_fails new l ≡ true = is_one (truth_number (not l.positive)) (left_to new l.arg) (left_there box y (truth_number (not h.positive) ∷ []) l.arg e p ∙ ap (λ b. truth_number (not b) ∷ []) s) in
        let z = sym (fails_not_holds new l w) ∙ f in cc
