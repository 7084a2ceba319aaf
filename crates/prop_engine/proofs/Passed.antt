-- Constraints that keep their ends whatever the box, and the runs of them that closing passes over.
use Rattle.std.proofs.Common.{◌≡◌, ◌≢◌, ℕ, zero, suc, ◌<◌, ◌≤◌, ◌+◌, Bool, true, false, not, ◌&&◌, List, [], ◌∷◌, length, set, get_or, refl, sym, ap, ◌∙◌, subst, ◌⊎◌, inl, inr, arith}
use Rattle.std.specs.Prelude.{slice_get, slice_index_or, Some, ◌==◌, pos}
use Rattle.std.specs.List.{list_all}
use Rattle.std.proofs.lemmas.Bool.Decides.{nat_tests}
use Rattle.std.proofs.lemmas.Option.{same_Some}
use Rattle.std.proofs.lemmas.Bool.{and_left, and_right}
use Rattle.qc_model.specs.declared.problem.Pred.TheVariants.{BoolClause}
use Rattle.qc_model.specs.Arguments.{variables_of}
use Rattle.qc_model.specs.Closed.{refutes_at, keeps_ends}
use Rattle.qc_model.specs.Content.{Game, Rule}
use Rattle.qc_model.specs.Domains.{Box, values_left, box_at, least_value, greatest_value}
use Rattle.qc_model.specs.Left.{is_only}
use Rattle.qc_model.specs.Refuted.{left_to}
use Rattle.model_arguments.specs.Written.{args_at}
use Rattle.prop_engine.specs.Closing.{is_between}
use Rattle.prop_engine.specs.Skipping.{AlwaysKeeps, ArePassed, IsSkipOf, next_of}
use Rattle.prop_engine.specs.Watching.{Waiting, is_marked, IsSpared}
use Rattle.prop_engine.proofs.Kept.{spared_more}
use Rattle.prop_engine.proofs.Open.{keeps_open}
use Rattle.prop_engine.proofs.Rules.{each_of}

equal_numbers : (j k : ℕ) → (j == k) ≡ true → j ≡ k
equal_numbers j k h = grind (arith, nat_tests)

-- one that fails
pub all_but_one : {X : Type 0} (p : X → Bool) (xs : List X) (i : ℕ) (d : X) → i < length xs → p (get_or xs i d) ≡ false → list_all p xs ≡ false
all_but_one p [] i d l h = absurd (omega (arith, l))
all_but_one p (x ∷ xs) zero d l h = and_left (p x) (list_all p xs) h
all_but_one p (x ∷ xs) (suc i) d l h = and_right (p x) (list_all p xs) (all_but_one p xs i d (omega (arith, l)) h)

-- a constraint without variables has no end to refute
pub none_keeps : (c : Rule) → variables_of c.args ≡ [] → AlwaysKeeps c
none_keeps c e box =
    ap (list_all (λ x. not (refutes_at c box x (least_value (values_left box x))) && not (refutes_at c box x (greatest_value (values_left box x))))) e

-- a number holds among the literals of a clause
pub plain_keeps : (c : Rule) → c.pred ≡ BoolClause → ((box : Box) → list_all (λ a. is_only (pos 0) (left_to box a)) (args_at c.args 0) ≡ false) → AlwaysKeeps c
plain_keeps c e f box =
    keeps_open c box e
    (λ y v l. and_left (list_all (λ a. is_only (pos 0) (left_to (box_at box y v) a)) (args_at c.args 0)) (list_all (λ a. is_only (pos 1) (left_to (box_at box y v) a)) (args_at c.args 1)) (f (box_at box y v)))

pub negated_keeps : (c : Rule) → c.pred ≡ BoolClause → ((box : Box) → list_all (λ a. is_only (pos 1) (left_to box a)) (args_at c.args 1) ≡ false) → AlwaysKeeps c
negated_keeps c e f box =
    keeps_open c box e
    (λ y v l. and_right (list_all (λ a. is_only (pos 0) (left_to (box_at box y v) a)) (args_at c.args 0)) (list_all (λ a. is_only (pos 1) (left_to (box_at box y v) a)) (args_at c.args 1)) (f (box_at box y v)))

-- none is passed, and one more
pub passed_none : (g : Game) (k n : ℕ) → n ≤ k → ArePassed g k n
passed_none g k n l box j c b s = absurd (outside j b)
  where
    outside : (j : ℕ) → is_between k n j ≡ true → ⊥
    outside j b = grind (arith, nat_tests)

pub passed_more : (g : Game) (k n : ℕ) (c : Rule) → slice_get g.constraints k ≡ Some c → AlwaysKeeps c → ArePassed g (k + 1) n → ArePassed g k n
passed_more g k n c e a f box j d b s = by (j == k) refl
  where
    later : (j == k) ≡ false → is_between (k + 1) n j ≡ true
    later h = grind (arith, nat_tests)

    by : (t : Bool) → (j == k) ≡ t → keeps_ends box d ≡ true
    by true h = subst (λ r. keeps_ends box r ≡ true) (same_Some c d (sym e ∙ (ap (slice_get g.constraints) (sym (equal_numbers j k h)) ∙ s))) (a box)
    by false h = f box j d (later h) s

-- where the number at a place is written
next_set : (xs : List ℕ) (k f i d : ℕ) → k < length xs → ((k ≡ i) × (slice_index_or (set xs k f) i d ≡ f)) ⊎ ((k ≢ i) × (slice_index_or (set xs k f) i d ≡ slice_index_or xs i d))
next_set [] k f i d l = absurd (omega (arith, l))
next_set (x ∷ xs) zero f zero d l = inl (refl, refl)
next_set (x ∷ xs) zero f (suc i) d l = inr (λ e. omega (arith, e), refl)
next_set (x ∷ xs) (suc k) f zero d l = inr (λ e. omega (arith, e), refl)
next_set (x ∷ xs) (suc k) f (suc i) d l =
    elim (next_set xs k f i d (omega (arith, l))) [ inl h ↦ inl (ap suc h.0, h.1) | inr h ↦ inr (λ e. h.0 (omega (arith, e)), h.1) ]

next_beyond : (xs : List ℕ) (i d : ℕ) → length xs ≤ i → slice_index_or xs i d ≡ d
next_beyond [] i d l = refl
next_beyond (x ∷ xs) zero d l = absurd (omega (arith, l))
next_beyond (x ∷ xs) (suc i) d l = next_beyond xs i d (omega (arith, l))

-- past the last constraint
pub beyond_forward : (xs : List ℕ) (i : ℕ) → length xs ≤ i → i ≤ next_of xs i
beyond_forward xs i l = omega (arith, next_beyond xs i i l)

pub beyond_passed : (g : Game) (xs : List ℕ) (i : ℕ) → length xs ≤ i → ArePassed g i (next_of xs i)
beyond_passed g xs i l = passed_none g i (next_of xs i) (omega (arith, next_beyond xs i i l))

-- one more number, before the others
pub set_forward : (xs : List ℕ) (k f : ℕ) → k < length xs → k ≤ f → ((i : ℕ) → k + 1 ≤ i → i ≤ next_of xs i) → (i : ℕ) → k ≤ i → i ≤ next_of (set xs k f) i
set_forward xs k f l m h i n =
    elim (next_set xs k f i i l) [ inl e ↦ omega (arith, e.0, e.1, m) | inr e ↦ by e.0 e.1 ]
  where
    by : k ≢ i → next_of (set xs k f) i ≡ next_of xs i → i ≤ next_of (set xs k f) i
    by a e = let j : k + 1 ≤ i = apart k i a n in let b = h i j in omega (arith, e, b)
      where
        apart : (k i : ℕ) → k ≢ i → k ≤ i → k + 1 ≤ i
        apart k i a n = grind arith

pub set_passed : (g : Game) (xs : List ℕ) (k f : ℕ) → k < length xs → ArePassed g k f → ((i : ℕ) → k + 1 ≤ i → ArePassed g i (next_of xs i)) → (i : ℕ) → k ≤ i → ArePassed g i (next_of (set xs k f) i)
set_passed g xs k f l p h i n =
    elim (next_set xs k f i i l) [
      | inl e ↦ subst (λ m. ArePassed g i m) (sym e.1) (subst (λ m. ArePassed g m f) e.0 p)
      | inr e ↦ subst (λ m. ArePassed g i m) (sym e.1) (h i (apart k i e.0 n))
    ]
  where
    apart : (k i : ℕ) → k ≢ i → k ≤ i → k + 1 ≤ i
    apart k i a n = grind arith

-- a constraint that is woken, and those that are passed over behind it
pub spared_passed : (g : Game) (v w : Waiting) (box : Box) (k n j : ℕ) → ((i : ℕ) → is_marked v i ≡ true → is_marked w i ≡ true) → (j < k → IsSpared g v box j) → IsSpared g w box k → ArePassed g (k + 1) n → j < n →
    IsSpared g w box j
spared_passed g v w box k n j m f h p l = by (j == k) refl
  where
    behind : (j == k) ≡ false → (j < k) ⊎ (is_between (k + 1) n j ≡ true)
    behind e = grind (arith, nat_tests)

    by : (t : Bool) → (j == k) ≡ t → IsSpared g w box j
    by true e = subst (λ i. IsSpared g w box i) (sym (equal_numbers j k e)) h
    by false e = elim (behind e) [ inl b ↦ spared_more g v w box j m (f b) | inr b ↦ λ u. each_of (is_between (k + 1) n) j g (keeps_ends box) b (p box) ]

pub spared_first : (g : Game) (w : Waiting) (box : Box) (k n j : ℕ) → ArePassed g k n → k ≤ j → j < n → IsSpared g w box j
spared_first g w box k n j p l m u = each_of (is_between k n) j g (keeps_ends box) between (p box)
  where
    between : is_between k n j ≡ true
    between = grind (arith, nat_tests)

-- all numbers are written
pub none_passed : (g : Game) (xs : List ℕ) (k : ℕ) → k ≤ 0 → ((i : ℕ) → k ≤ i → i ≤ next_of xs i) → ((i : ℕ) → k ≤ i → ArePassed g i (next_of xs i)) → IsSkipOf g xs
none_passed g xs k l f p = record {
  forward = λ i. f i (omega (arith, l));
  passed = λ i. p i (omega (arith, l));
}

pub inside_span : (first last k : ℕ) → first ≤ k → k < last → is_between first last k ≡ true
inside_span first last k l m = grind (arith, nat_tests)
