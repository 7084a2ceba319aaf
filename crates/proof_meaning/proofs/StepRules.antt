-- What the steps of a scope's own tree make of the box and of the leaves.
use Rattle.std.proofs.Common.{◌≡◌, ◌⊎◌, inl, inr, ℕ, zero, suc, ◌+◌, ◌<◌, ◌≤◌, Bool, true, false, not, List, [], ◌∷◌, ◌++◌, length, map, set, refl, sym, ap, ◌∙◌, subst, arith, cond, Option, Some, None}
use Rattle.std.specs.Prelude.{ℤ, pos, slice_get, slice_index_or, ◌==◌, int_lt}
use Rattle.std.proofs.lemmas.Bool.Decides.{nat_tests}
use Rattle.std.proofs.lemmas.Bool.{and_parts}
use Rattle.qc_model.specs.declared.problem.Kind.{Kind}
use Rattle.qc_model.specs.declared.problem.Kind.TheVariants.{Exists, Forall}
use Rattle.qc_model.specs.declared.problem.Sense.{Sense}
use Rattle.qc_model.specs.declared.problem.Sense.TheVariants.{Min, Max}
use Rattle.qc_model.specs.declared.problem.Target.{Target}
use Rattle.qc_model.specs.declared.problem.Target.TheVariants.{Var, Aggregate as Agg}
use Rattle.qc_model.specs.declared.problem.Scope.{Scope}
use Rattle.qc_model.specs.declared.problem.Condition.{Condition}
use Rattle.qc_model.specs.Content.{Game}
use Rattle.qc_model.specs.Lists.{Among}
use Rattle.qc_model.specs.Domains.{Values, Box, InBox, values_left, is_within, values_within, values_outside, box_within, box_without, has_empty, is_none_left, least_from, greatest_from}
use Rattle.qc_model.specs.Game.{before}
use Rattle.qc_model.specs.Plan.{Plan}
use Rattle.qc_model.specs.Value.{value}
use Rattle.qc_model.specs.Optimal.{is_better}
use Rattle.qc_model.specs.Demands.{vector}
use Rattle.qc_model.specs.Sees.{AllVisible}
use Rattle.qc_model.specs.Block.{of_kind, force_stop, no_condition_to}
use Rattle.qc_model.specs.ExistsVerdict.{best_number, best_number_from}
use Rattle.qc_model.proofs.ExistsMeans.{FirstNoBetter}
use Rattle.model_laws.proofs.Better.{better_false}
use Rattle.model_laws.proofs.Folds.{not_better_self}
use Rattle.model_laws.proofs.Choosing.{best_weaker}
use Rattle.proof_tree.specs.declared.tree.Step.{Step}
use Rattle.proof_tree.specs.declared.tree.Step.TheVariants.{Prune, Bound}
use Rattle.proof_tree.specs.Place.{Tracked, owner_of, tracked_target, tracked_first, tracked_variable}
use Rattle.proof_tree.specs.Steps.{after_step, after_steps, is_legal, are_legal, removes_some, is_refuted_within, is_tracked, best_value, step_marks}
use Rattle.proof_tree.specs.Finding.{Leaf, leaf_bound}
use Rattle.proof_tree.specs.Fair.{free_stop, bounded_after}
use Rattle.proof_meaning.proofs.Boxes.{differ, filter_widen, filter_split}
use Rattle.proof_meaning.proofs.Narrowed.{past_set}
use Rattle.proof_meaning.proofs.Places.{not_true}
use Rattle.proof_meaning.proofs.Premises.{IsSound}
use Rattle.proof_meaning.proofs.Owners.{bound_free}
use Rattle.proof_meaning.proofs.Reach.{reach, value_reach}
use Rattle.proof_meaning.proofs.Frames.{FairPart, prune_stays, prune_fair, bound_fair}
use Rattle.proof_meaning.proofs.LeafLists.{LeavesMean}
use Rattle.proof_meaning.proofs.LeafRules.{same_mean, bound_mean}

-- whether a bound stands above, after the steps
abbrev pub flag_after : List Step → Bool → Bool
flag_after [] b = b
flag_after (st ∷ steps) b = flag_after steps (bounded_after st b)

-- the best of some values is the best number
least_number : (n : ℤ) (vs : Values) → least_from n vs ≡ best_number_from Min n vs
least_number n [] = refl
least_number n (v ∷ vs) = least_number (cond (int_lt v n) v n) vs

greatest_number : (n : ℤ) (vs : Values) → greatest_from n vs ≡ best_number_from Max n vs
greatest_number n [] = refl
greatest_number n (v ∷ vs) = greatest_number (cond (int_lt n v) v n) vs

best_is : (s : Sense) (vs : Values) → best_value s vs ≡ best_number s vs
best_is Min [] = refl
best_is Max [] = refl
best_is Min (v ∷ vs) = least_number v vs
best_is Max (v ∷ vs) = greatest_number v vs

none_above : (s : Sense) (z : ℤ) (vs : Values) → Among z vs → is_better s z (best_value s vs) ≡ false
none_above s z vs m = ap (is_better s z) (best_is s vs) ∙ best_weaker s z z vs m (better_false s z z (not_better_self s z))

at_place : (ds : Box) (x : ℕ) (d : Values) (w : List ℤ) → x < length w → InBox w (set ds x d) → Among (slice_index_or w x (pos 0)) d
at_place ds x d [] l h = absurd (omega arith)
at_place [] x d (v ∷ w) l h = absurd h
at_place (e ∷ ds) zero d (v ∷ w) l h = h.0
at_place (e ∷ ds) (suc x) d (v ∷ w) l h = at_place ds x d w (omega arith) h.1

-- the value that a bound removes is held by its mark
target_held : (g : Game) (later : List Scope) (i : ℕ) (c : Condition) (e : List Condition) (u : Tracked) (b : List ℤ) (s : Plan) (vs : Values) → tracked_target g later i c.sense c.target ≡ Some u →
    Among (slice_index_or (reach b s) u.variable (pos 0)) vs → is_better c.sense (value g s c.target b) (best_value u.sense vs) ≡ false
target_held g later i c e u b s vs q m = by c.target q
  where
    by : (x : Target) → tracked_target g later i c.sense x ≡ Some u → is_better c.sense (value g s x b) (best_value u.sense vs) ≡ false
    by (Agg n) q = cc
    by (Var x) q = at (no_condition_to (owner_of (slice_get g.variables x.0)) later i) q
      where
        at : (t : Bool) → cond t (Some (record { sense = c.sense; variable = x.0 })) None ≡ Some u → is_better c.sense (value g s (Var x) b) (best_value u.sense vs) ≡ false
        at false q = cc
        at true q =
            let r : record { sense = c.sense; variable = x.0 } ≡ u = cc in
            subst (λ (z : Tracked). is_better c.sense (value g s (Var x) b) (best_value z.sense vs) ≡ false) r
            (ap (λ n. is_better c.sense n (best_value c.sense vs)) (value_reach g s x b)
            ∙ none_above c.sense (slice_index_or (reach b s) x.0 (pos 0)) vs (subst (λ (z : Tracked). Among (slice_index_or (reach b s) z.variable (pos 0)) vs) (sym r) m))

first_held : (g : Game) (later : List Scope) (i : ℕ) (e : List Condition) (u : Tracked) (b : List ℤ) (s : Plan) (vs : Values) → tracked_first g later i e ≡ Some u →
    Among (slice_index_or (reach b s) u.variable (pos 0)) vs → FirstNoBetter e (vector g e b s) (best_value u.sense vs)
first_held g later i [] u b s vs q m = tt
first_held g later i (c ∷ e) u b s vs q m = target_held g later i c e u b s vs q m

some_demand : (g : Game) (k : Kind) (later : List Scope) (i : ℕ) (e : List Condition) (u : Tracked) → of_kind k (tracked_first g later i e) None ≡ Some u → (k ≡ Exists) × (tracked_first g later i e ≡ Some u) × (¬ (e ≡ []))
some_demand g Exists later i [] u q = cc
some_demand g Exists later i (c ∷ e) u q = (refl, q, λ n. cc)
some_demand g Forall later i e u q = cc

same_variable : (m n : ℕ) → (m == n) ≡ true → m ≡ n
same_variable m n e = grind (arith, nat_tests)

module _ (g : Game) (r : IsSound g) (s : Scope) (later : List Scope) (i : ℕ) (e : List Condition) (a : List ℤ) (len : suc i + length later ≡ length g.scopes) (visible : AllVisible g later (suc i) e) where
  abbrev legal : Option Tracked → Step → Box → Bool
  legal t st box = is_legal g i (force_stop (s ∷ later) i) t st box

  -- a bound's variable
  bounded : (t : Option Tracked) (x : ℕ) → tracked_variable g (s ∷ later) i e ≡ t → is_tracked x t ≡ true →
      (u : Tracked) × (t ≡ Some u) × (u.variable ≡ x) × (s.kind ≡ Exists) × (u.variable < before g (free_stop later (suc i)))
  bounded None x q h = absurd (differ h)
  bounded (Some u) x q h = let f = bound_free g r.valid s later i e u visible q in (u, refl, same_variable u.variable x h, f.0, f.1)

  pub step_fair : (t : Option Tracked) → tracked_variable g (s ∷ later) i e ≡ t → (st : Step) (b : Bool) (box : Box) → legal t st box ≡ true → FairPart g b s.kind later i a box →
      FairPart g (bounded_after st b) s.kind later i a (after_step st box)
  step_fair t q (Prune x lo hi c) b box h f =
      let p = and_parts (removes_some box x.0 lo hi) (is_refuted_within i (force_stop (s ∷ later) i) (slice_get g.constraints c.0) (box_within box x.0 lo hi)) h in
      let p1 = and_parts (not (has_empty box)) (not (is_none_left (values_within lo hi (values_left box x.0)))) p.0 in
      prune_fair g r.table r.ordered b s.kind later i a box x.0 lo hi c.0 len p.1 (not_true (has_empty box) p1.0) f
  step_fair t q (Bound x lo hi) b box h f =
      let p = and_parts (removes_some box x.0 lo hi) (is_tracked x.0 t) h in
      let p1 = and_parts (not (has_empty box)) (not (is_none_left (values_within lo hi (values_left box x.0)))) p.0 in
      let u = bounded t x.0 q p.1 in
      subst (λ k. FairPart g true k later i a (box_without box x.0 lo hi)) (sym u.3)
      (bound_fair g b later i a box x.0 lo hi (subst (λ n. n < before g (free_stop later (suc i))) u.2 u.4) (not_true (has_empty box) p1.0) (subst (λ k. FairPart g b k later i a box) u.3 f))

  pub steps_fair : (t : Option Tracked) → tracked_variable g (s ∷ later) i e ≡ t → (steps : List Step) (b : Bool) (box : Box) → are_legal g i (force_stop (s ∷ later) i) t steps box ≡ true → FairPart g b s.kind later i a box →
      FairPart g (flag_after steps b) s.kind later i a (after_steps steps box)
  steps_fair t q [] b box h f = f
  steps_fair t q (st ∷ steps) b box h f =
      let p = and_parts (legal t st box) (are_legal g i (force_stop (s ∷ later) i) t steps (after_step st box)) h in
      steps_fair t q steps (bounded_after st b) (after_step st box) p.1 (step_fair t q st b box p.0 f)

  pub steps_mean : (t : Option Tracked) → tracked_variable g (s ∷ later) i e ≡ t → (steps : List Step) (b : Bool) (box : Box) (ls : List Leaf) → are_legal g i (force_stop (s ∷ later) i) t steps box ≡ true → FairPart g b s.kind later i a box →
      LeavesMean g (flag_after steps b) s.kind later i e a (after_steps steps box) ls → LeavesMean g b s.kind later i e a box (map leaf_bound (step_marks t steps box) ++ ls)
  steps_mean t q [] b box ls h f m = m
  steps_mean t q (Prune x lo hi c ∷ steps) b box ls h f m =
      let p = and_parts (legal t (Prune x lo hi c) box) (are_legal g i (force_stop (s ∷ later) i) t steps (after_step (Prune x lo hi c) box)) h in
      let p1 = and_parts (removes_some box x.0 lo hi) (is_refuted_within i (force_stop (s ∷ later) i) (slice_get g.constraints c.0) (box_within box x.0 lo hi)) p.0 in
      same_mean g b s.kind later i e a (box_without box x.0 lo hi) box (map leaf_bound (step_marks t steps (box_without box x.0 lo hi)) ++ ls)
      (λ w. filter_widen (λ z. not (is_within lo hi z)) box x.0 w)
      (prune_stays g r.table r.ordered s.kind later i a box x.0 lo hi c.0 len p1.1 f.frame)
      (steps_mean t q steps b (box_without box x.0 lo hi) ls p.1 (step_fair t q (Prune x lo hi c) b box p.0 f) m)
  steps_mean None q (Bound x lo hi ∷ steps) b box ls h f m =
      let p = and_parts (legal None (Bound x lo hi) box) (are_legal g i (force_stop (s ∷ later) i) None steps (after_step (Bound x lo hi) box)) h in
      absurd (differ (and_parts (removes_some box x.0 lo hi) false p.0).1)
  steps_mean (Some u) q (Bound x lo hi ∷ steps) b box ls h f m =
      let p = and_parts (legal (Some u) (Bound x lo hi) box) (are_legal g i (force_stop (s ∷ later) i) (Some u) steps (after_step (Bound x lo hi) box)) h in
      let p1 = and_parts (removes_some box x.0 lo hi) (is_tracked x.0 (Some u)) p.0 in
      let d = some_demand g s.kind later (suc i) e u q in
      let small = box_without box x.0 lo hi in
      let rest : List Leaf = map leaf_bound (step_marks (Some u) steps small) ++ ls in
      let mark = best_value u.sense (values_within lo hi (values_left box x.0)) in
      let v = same_variable u.variable x.0 p1.1 in
      subst (λ k. LeavesMean g b k later i e a box (leaf_bound mark ∷ rest)) (sym d.0)
      (bound_mean g b later i e a small box mark rest (λ w. filter_widen (λ z. not (is_within lo hi z)) box x.0 w) d.2 (λ t s' mv o j. held u x.0 lo hi box (a ++ t) s' d.1 v j)
      (subst (λ k. LeavesMean g true k later i e a small rest) d.0 (steps_mean (Some u) q steps true small ls p.1 (step_fair (Some u) q (Bound x lo hi) b box p.0 f) m)))
    where
      below : (x n : ℕ) → (x < n) ⊎ (n ≤ x)
      below x n = grind arith

      held : (u : Tracked) (x : ℕ) (lo hi : ℤ) (box : Box) (b : List ℤ) (p : Plan) → tracked_first g later (suc i) e ≡ Some u → u.variable ≡ x → InBox (reach b p) box →
          InBox (reach b p) (box_without box x lo hi) ⊎ FirstNoBetter e (vector g e b p) (best_value u.sense (values_within lo hi (values_left box x)))
      held u x lo hi box b p q v j = elim (filter_split (is_within lo hi) box x (reach b p) j) [
        | inl k ↦ elim (below x (length (reach b p))) [
          | inl l ↦ inr (first_held g later (suc i) e u b p (values_within lo hi (values_left box x)) q (subst (λ n. Among (slice_index_or (reach b p) n (pos 0)) (values_within lo hi (values_left box x))) (sym v) (at_place box x (values_within lo hi (values_left box x)) (reach b p) l k)))
          | inr l ↦ inl (past_set box x (values_outside lo hi (values_left box x)) (reach b p) l j)
        ]
        | inr k ↦ inl k
      ]
