-- Steps that are legal in one box are so in each that looks the same, and leave boxes that do.
use Rattle.std.proofs.Common.{◌≡◌, ℕ, ◌==◌, true, not, List, [], ◌∷◌, set, refl, sym, ap, ◌∙◌, subst, arith, ℤ, Option, Some, None}
use Rattle.std.specs.Prelude.{nat_le, nat_lt, slice_get}
use Rattle.std.specs.List.{list_all}
use Rattle.std.proofs.lemmas.Bool.Decides.{nat_tests}
use Rattle.std.proofs.lemmas.Bool.{and_parts, and_from}
use Rattle.qc_model.specs.declared.problem.VarId.{VarId}
use Rattle.qc_model.specs.Content.{Game, Rule}
use Rattle.qc_model.specs.Domains.{Box, values_left, values_within, box_within, is_none_left, has_empty}
use Rattle.qc_model.specs.Refuted.{refuted_by}
use Rattle.qc_model.specs.Block.{is_owned_within}
use Rattle.proof_tree.specs.declared.tree.Step.{Step}
use Rattle.proof_tree.specs.declared.tree.Step.TheVariants.{Prune, Bound}
use Rattle.proof_tree.specs.Place.{Tracked}
use Rattle.proof_tree.specs.Steps.{after_step, after_steps, removes_some, is_refuted_within, is_tracked, is_legal, are_legal, best_value, step_marks}
use Rattle.proof_alike.specs.Alike.{is_named, is_looked_at}
use Rattle.proof_alike.specs.Looking.{step_looks}
use Rattle.proof_alike.proofs.Boxes.{and_both, Look, look_set, look_without, empty_same}
use Rattle.proof_alike.proofs.Named.{TrackedNamed, named_looks}
use Rattle.proof_alike.proofs.Filling.{get_among}
use Rattle.proof_alike.proofs.Rules.{refuted_same}

removes_same : (g : Game) (top i : ℕ) (a b : Box) (x : ℕ) (low high : ℤ) → is_looked_at g top x ≡ true → Look g top i a b → removes_some a x low high ≡ removes_some b x low high
removes_same g top i a b x low high e l =
    and_both (not (has_empty a)) (not (is_none_left (values_within low high (values_left a x)))) (not (has_empty b)) (not (is_none_left (values_within low high (values_left b x))))
    (ap not (empty_same g top i a b l)) (ap (λ vs. not (is_none_left (values_within low high vs))) (l.same x e))

look_within : (g : Game) (top i : ℕ) (a b : Box) (x : ℕ) (low high : ℤ) → is_looked_at g top x ≡ true → Look g top i a b → Look g top i (box_within a x low high) (box_within b x low high)
look_within g top i a b x low high e l =
    subst (λ vs. Look g top i (box_within a x low high) (set b x (values_within low high vs))) (l.same x e)
    (look_set g top i a b x (values_within low high (values_left a x)) e l)

-- a constraint from scope i on that refutes one refutes the other
refutes_too : (g : Game) (top i stop k : ℕ) (o : Option Rule) (a b : Box) → slice_get g.constraints k ≡ o → Look g top i a b → is_refuted_within i stop o a ≡ true → is_refuted_within i stop o b ≡ true
refutes_too g top i stop k None a b e l h = h
refutes_too g top i stop k (Some c) a b e l h =
    let p = and_parts (is_owned_within i stop c) (refuted_by c a) h in
    let owned = (and_parts (nat_le i c.owner.0) (nat_lt c.owner.0 stop) p.0).0 in
    and_from (is_owned_within i stop c) (refuted_by c b) p.0 (sym (refuted_same g top i a b c (get_among g.constraints k c e) owned l) ∙ p.1)

tracked_looks : (g : Game) (top x : ℕ) (t : Option Tracked) → TrackedNamed g t → is_tracked x t ≡ true → is_looked_at g top x ≡ true
tracked_looks g top x None h e = cc
tracked_looks g top x (Some t) h e = named_looks g top x (subst (λ y. is_named g y ≡ true) (equal t.variable x e) h)
  where
    equal : (j k : ℕ) → (j == k) ≡ true → j ≡ k
    equal j k e = grind (arith, nat_tests)

-- the mark of a bound
bound_mark : (t : Option Tracked) (x : VarId) (low high : ℤ) (steps : List Step) (a b : Box) → values_left a x.0 ≡ values_left b x.0 →
    step_marks t steps (after_step (Bound x low high) a) ≡ step_marks t steps (after_step (Bound x low high) b) → step_marks t (Bound x low high ∷ steps) a ≡ step_marks t (Bound x low high ∷ steps) b
bound_mark None x low high steps a b e m = m
bound_mark (Some t) x low high steps a b e m =
    ap (λ vs. best_value t.sense (values_within low high vs) ∷ step_marks (Some t) steps (after_step (Bound x low high) a)) e
    ∙ ap (λ ms. best_value t.sense (values_within low high (values_left b x.0)) ∷ ms) m

-- a step of scope i, below one of scope top, by constraints before stop, where t is the variable that may be bounded: legal in b too
pub record StepAlike (g : Game) (top i stop : ℕ) (t : Option Tracked) (s : Step) (a b : Box) : Type 0 where
  pub legal : is_legal g i stop t s b ≡ true
  pub after : Look g top i (after_step s a) (after_step s b)

pub record StepsAlike (g : Game) (top i stop : ℕ) (t : Option Tracked) (steps : List Step) (a b : Box) : Type 0 where
  pub legal : are_legal g i stop t steps b ≡ true
  pub marks : step_marks t steps a ≡ step_marks t steps b
  pub after : Look g top i (after_steps steps a) (after_steps steps b)

module _ (g : Game) (top i stop : ℕ) (t : Option Tracked) (named : TrackedNamed g t) where
  step_alike : (s : Step) (a b : Box) → step_looks g top s ≡ true → is_legal g i stop t s a ≡ true → Look g top i a b → StepAlike g top i stop t s a b
  step_alike (Prune x low high c) a b e h l =
      let p = and_parts (removes_some a x.0 low high) (is_refuted_within i stop (slice_get g.constraints c.0) (box_within a x.0 low high)) h in
      record {
        legal = and_from (removes_some b x.0 low high) (is_refuted_within i stop (slice_get g.constraints c.0) (box_within b x.0 low high))
            (sym (removes_same g top i a b x.0 low high e l) ∙ p.0)
            (refutes_too g top i stop c.0 (slice_get g.constraints c.0) (box_within a x.0 low high) (box_within b x.0 low high) refl (look_within g top i a b x.0 low high e l) p.1);
        after = look_without g top i a b x.0 low high e l;
      }
  step_alike (Bound x low high) a b e h l =
      let p = and_parts (removes_some a x.0 low high) (is_tracked x.0 t) h in
      let q = tracked_looks g top x.0 t named p.1 in
      record {
        legal = and_from (removes_some b x.0 low high) (is_tracked x.0 t) (sym (removes_same g top i a b x.0 low high q l) ∙ p.0) p.1;
        after = look_without g top i a b x.0 low high q l;
      }

  first_mark : (s : Step) (steps : List Step) (a b : Box) → step_looks g top s ≡ true → is_legal g i stop t s a ≡ true → Look g top i a b →
      step_marks t steps (after_step s a) ≡ step_marks t steps (after_step s b) → step_marks t (s ∷ steps) a ≡ step_marks t (s ∷ steps) b
  first_mark (Prune x low high c) steps a b e h l m = m
  first_mark (Bound x low high) steps a b e h l m =
      let p = and_parts (removes_some a x.0 low high) (is_tracked x.0 t) h in
      bound_mark t x low high steps a b (l.same x.0 (tracked_looks g top x.0 t named p.1)) m

  pub steps_alike : (steps : List Step) (a b : Box) → list_all (step_looks g top) steps ≡ true → are_legal g i stop t steps a ≡ true → Look g top i a b → StepsAlike g top i stop t steps a b
  steps_alike [] a b e h l = record { legal = refl; marks = refl; after = l }
  steps_alike (s ∷ steps) a b e h l =
      let q = and_parts (step_looks g top s) (list_all (step_looks g top) steps) e in
      let p = and_parts (is_legal g i stop t s a) (are_legal g i stop t steps (after_step s a)) h in
      let here = step_alike s a b q.0 p.0 l in
      let later = steps_alike steps (after_step s a) (after_step s b) q.1 p.1 here.after in
      record {
        legal = and_from (is_legal g i stop t s b) (are_legal g i stop t steps (after_step s b)) here.legal later.legal;
        marks = first_mark s steps a b q.0 p.0 l later.marks;
        after = later.after;
      }
