-- Constraints by their numbers, and steps of several constraints.
use Rattle.std.proofs.Common.{◌≡◌, ℕ, zero, suc, ◌<◌, ◌+◌, Bool, true, false, ◌&&◌, ◌||◌, List, [], ◌∷◌, ◌++◌, length, take, get_or, ◌≢◌, ◌⊎◌, inl, inr, append-nil, length-append, refl, sym, ap, ◌∙◌, subst, arith}
use Rattle.std.specs.Prelude.{slice_get, nat_lt, Some, ◌==◌, Result, Ok, Err, IfOk}
use Rattle.std.specs.declared.alloc.AllocError.{AllocError}
use Rattle.std.specs.List.{list_all}
use Rattle.std.proofs.lemmas.Bool.Decides.{nat_tests}
use Rattle.std.proofs.lemmas.Option.{same_Some}
use Rattle.std.proofs.lemmas.Bool.{or_right, and_from}
use Rattle.qc_model.specs.declared.problem.ConId.{ConId}
use Rattle.qc_model.specs.Content.{Game, Rule}
use Rattle.qc_model.specs.Domains.{Box, box_within, has_empty, is_sub_box, declared_box}
use Rattle.qc_model.specs.Valid.{IsValid, is_constraint, is_number}
use Rattle.qc_model.proofs.Readable.{first, second}
use Rattle.model_arguments.specs.Asked.{IsAsked}
use Rattle.proof_tree.specs.declared.tree.Step.{Step}
use Rattle.proof_tree.specs.declared.tree.Step.TheVariants.{Prune, Bound}
use Rattle.proof_tree.specs.Steps.{removes_some, after_step, after_steps}
use Rattle.fd_store.specs.Held.{Held}
use Rattle.prop_base.specs.Pruning.{is_refuted_by, is_pruned_by, are_pruned_by, IsPruning, is_just, IsFiltered}
use Rattle.prop_base.specs.declared.answer.Filtered.{Filtered}
use Rattle.prop_base.specs.declared.answer.Filtered.TheVariants.{Emptied, Stable, Changed}
use Rattle.qc_model.specs.Closed.{keeps_ends}
use Rattle.prop_engine.specs.Closing.{has_constraint, EachRule, IsRun}

pub of_all : {X : Type 0} (p : X → Bool) (xs : List X) (k : ℕ) (x : X) → list_all p xs ≡ true → slice_get xs k ≡ Some x → p x ≡ true
of_all p [] k x h e = cc
of_all p (y ∷ xs) zero x h e = subst (λ z. p z ≡ true) (same_Some y x e) (first (p y) (list_all p xs) h)
of_all p (y ∷ xs) (suc k) x h e = of_all p xs k x (second (p y) (list_all p xs) h) e

-- what a filter asks
pub asked : (g : Game) (box : Box) (k : ℕ) (c : Rule) → IsValid g → is_sub_box box (declared_box g) ≡ true → has_empty box ≡ false → slice_get g.constraints k ≡ Some c → IsAsked g c box
asked g box k c v s f e = record {
  rule = of_all (is_constraint g.variables) g.constraints k c v.constraints e;
  declared = s;
  full = f;
}

same_number : (k : ℕ) → (k == k) ≡ true
same_number k = grind (arith, nat_tests)

equal_numbers : (j k : ℕ) → (j == k) ≡ true → j ≡ k
equal_numbers j k h = grind (arith, nat_tests)

pub has_at : (cs : List ConId) (i : ℕ) (d : ConId) → i < length cs → has_constraint cs (get_or cs i d).0 ≡ true
has_at [] i d h = absurd (omega arith)
has_at (c ∷ cs) zero d h = ap (λ b. b || has_constraint cs c.0) (same_number c.0)
has_at (c ∷ cs) (suc i) d h = or_right (c.0 == (get_or cs i d).0) (has_constraint cs (get_or cs i d).0) (has_at cs i d (omega arith))

below_number : (k n : ℕ) → nat_lt k n ≡ true → k < n
below_number k n h = grind (arith, nat_tests)

-- each of the list is a constraint where all are
pub exist_at : (cs : List ConId) (i : ℕ) (d : ConId) (n : ℕ) → i < length cs → list_all (λ c. nat_lt c.0 n) cs ≡ true → (get_or cs i d).0 < n
exist_at [] i d n l h = absurd (omega arith)
exist_at (c ∷ cs) zero d n l h = below_number c.0 n (first (nat_lt c.0 n) (list_all (λ e. nat_lt e.0 n) cs) h)
exist_at (c ∷ cs) (suc i) d n l h = exist_at cs i d n (omega (arith, l)) (second (nat_lt c.0 n) (list_all (λ e. nat_lt e.0 n) cs) h)

-- steps of one of the constraints are steps of them all
step_weaker : (p q : ℕ → Bool) (g : Game) (s : Step) (box : Box) → ((k : ℕ) → p k ≡ true → q k ≡ true) → is_pruned_by p g s box ≡ true → is_pruned_by q g s box ≡ true
step_weaker p q g (Prune x lo hi c) box w h =
    let r = removes_some box x.0 lo hi && (is_number lo && is_number hi) in
    let f = is_refuted_by (slice_get g.constraints c.0) (box_within box x.0 lo hi) in
    let both = first (r && p c.0) f h in
    and_from (r && q c.0) f (and_from r (q c.0) (first r (p c.0) both) (w c.0 (second r (p c.0) both))) (second (r && p c.0) f h)
step_weaker p q g (Bound x lo hi) box w h = cc

steps_weaker : (p q : ℕ → Bool) (g : Game) (steps : List Step) (box : Box) → ((k : ℕ) → p k ≡ true → q k ≡ true) → are_pruned_by p g steps box ≡ true → are_pruned_by q g steps box ≡ true
steps_weaker p q g [] box w h = refl
steps_weaker p q g (s ∷ steps) box w h =
    and_from (is_pruned_by q g s box) (are_pruned_by q g steps (after_step s box))
    (step_weaker p q g s box w (first (is_pruned_by p g s box) (are_pruned_by p g steps (after_step s box)) h))
    (steps_weaker p q g steps (after_step s box) w (second (is_pruned_by p g s box) (are_pruned_by p g steps (after_step s box)) h))

pub pruning_weaker : (p q : ℕ → Bool) (g : Game) (s t : Held) (a b : List Step) → ((k : ℕ) → p k ≡ true → q k ≡ true) → IsPruning p g s t a b → IsPruning q g s t a b
pruning_weaker p q g s t a b w h = record {
  more = h.more;
  appended = h.appended;
  legal = steps_weaker p q g h.more s.box w h.legal;
  reached = h.reached;
  follows = h.follows;
}

-- of one that passes
pub pruning_of : (q : ℕ → Bool) (c : ℕ) (g : Game) (s t : Held) (a b : List Step) → q c ≡ true → IsPruning (is_just c) g s t a b → IsPruning q g s t a b
pruning_of q c g s t a b h p = pruning_weaker (is_just c) q g s t a b (λ k e. subst (λ z. q z ≡ true) (sym (equal_numbers k c e)) h) p

-- no step, no change
none_more : {X : Type 0} (xs ys : List X) → xs ++ ys ≡ xs → ys ≡ []
none_more xs [] h = refl
none_more xs (y ∷ ys) h = absurd (omega (arith, ap length h, length-append xs (y ∷ ys)))

pub pruning_none : (ok : ℕ → Bool) (g : Game) (s t : Held) (a b : List Step) → IsPruning ok g s t a b → b ≡ a → t.box ≡ s.box
pruning_none ok g s t a b p e = p.reached ∙ ap (λ l. after_steps l s.box) (none_more a p.more (sym p.appended ∙ e))

longer : {X : Type 0} (xs ys zs : List X) → zs ≡ xs ++ ys → zs ≢ xs → length xs < length zs
longer xs [] zs e n = absurd (n (e ∙ append-nil xs))
longer xs (y ∷ ys) zs e n = omega (arith, ap length e, length-append xs (y ∷ ys))

-- what a filter answers, for each constraint with its number
pub ran : (f : Filtered) (g : Game) (k : ℕ) (c : Rule) (s t : Held) (a b : List Step) → slice_get g.constraints k ≡ Some c → IsPruning (is_just k) g s t a b → IsFiltered f c t.box a b →
    IsRun f (is_just k) g s.box t.box a b
ran Emptied g k c s t a b e p h = h
ran Stable g k c s t a b e p h =
    (pruning_none (is_just k) g s t a b p h.1, h.1, λ j d i l. subst (λ r. keeps_ends t.box r ≡ true) (same_Some c d (sym e ∙ (ap (slice_get g.constraints) (sym (equal_numbers j k i)) ∙ l))) h.2)
ran Changed g k c s t a b e p h =
    (h.0, longer a p.more b p.appended h.1, λ j d i l. subst (λ r. keeps_ends t.box r ≡ true) (same_Some c d (sym e ∙ (ap (slice_get g.constraints) (sym (equal_numbers j k i)) ∙ l))) h.2)

-- one more of the list
pub one_more : (i : ℕ) → suc i ≡ i + 1
one_more i = omega arith

pub has_more : (cs : List ConId) (i k : ℕ) (d : ConId) → i < length cs → has_constraint (take (suc i) cs) k ≡ true → (has_constraint (take i cs) k ≡ true) ⊎ ((k == (get_or cs i d).0) ≡ true)
has_more [] i k d l h = absurd (omega arith)
has_more (c ∷ cs) zero k d l h = inr (flip (c.0) k (only (c.0 == k) h))
  where
    only : (b : Bool) → (b || false) ≡ true → b ≡ true
    only true h = refl
    only false h = cc

    flip : (j k : ℕ) → (j == k) ≡ true → (k == j) ≡ true
    flip j k h = grind (arith, nat_tests)
has_more (c ∷ cs) (suc i) k d l h = by (c.0 == k) (has_more cs i k d (omega arith)) h
  where
    by : (b : Bool) → (has_constraint (take (suc i) cs) k ≡ true → (has_constraint (take i cs) k ≡ true) ⊎ ((k == (get_or cs i d).0) ≡ true)) → (b || has_constraint (take (suc i) cs) k) ≡ true →
        ((b || has_constraint (take i cs) k) ≡ true) ⊎ ((k == (get_or cs i d).0) ≡ true)
    by true f h = inl refl
    by false f h = f h

pub each_more : (cs : List ConId) (i : ℕ) (d : ConId) (g : Game) (p : Rule → Bool) → i < length cs → EachRule (has_constraint (take i cs)) g p → EachRule (is_just (get_or cs i d).0) g p →
    EachRule (has_constraint (take (i + 1) cs)) g p
each_more cs i d g p l e f k c h s = elim (has_more cs i k d l (ap (λ n. has_constraint (take n cs) k) (one_more i) ∙ h)) [ inl m ↦ e k c m s | inr m ↦ f k c m s ]

pub ran_ok : (r : Result Filtered AllocError) (g : Game) (k : ℕ) (c : Rule) (s t : Held) (a b : List Step) → slice_get g.constraints k ≡ Some c → IsPruning (is_just k) g s t a b →
    IfOk r (λ f. IsFiltered f c t.box a b) → IfOk r (λ f. IsRun f (is_just k) g s.box t.box a b)
ran_ok (Ok f) g k c s t a b e p h = ran f g k c s t a b e p h
ran_ok (Err x) g k c s t a b e p h = h

pub known_at : (g : Game) (p : Rule → Bool) (k : ℕ) (c : Rule) → EachRule (is_just k) g p → slice_get g.constraints k ≡ Some c → p c ≡ true
known_at g p k c f e = f k c (same_number k) e

pub each_of : (q : ℕ → Bool) (k : ℕ) (g : Game) (p : Rule → Bool) → q k ≡ true → EachRule q g p → EachRule (is_just k) g p
each_of q k g p h f j c e s = f j c (subst (λ z. q z ≡ true) (sym (equal_numbers j k e)) h) s
