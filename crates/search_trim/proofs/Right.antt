-- The slice does in place of the steps.
use Rattle.std.proofs.Common.{◌≡◌, ℕ, ◌<◌, Bool, true, false, not, cond, List, [], ◌∷◌, length, refl, sym, ap, ◌∙◌, subst, ℤ, Option, Some}
use Rattle.std.specs.Prelude.{slice_get, replicate}
use Rattle.std.specs.List.{list_all}
use Rattle.std.proofs.lemmas.Bool.{and_parts, and_from}
use Rattle.qc_model.specs.declared.problem.VarId.{VarId}
use Rattle.qc_model.specs.declared.problem.ConId.{ConId}
use Rattle.qc_model.specs.Content.{Game}
use Rattle.qc_model.specs.Domains.{Box, values_left, values_within, values_outside, box_within, is_none_left, has_empty}
use Rattle.model_arguments.proofs.Bools.{not_false}
use Rattle.proof_tree.specs.declared.tree.Step.{Step}
use Rattle.proof_tree.specs.declared.tree.Step.TheVariants.{Prune, Bound}
use Rattle.proof_tree.specs.Place.{Tracked}
use Rattle.proof_tree.specs.Steps.{after_step, after_steps, removes_some, is_refuted_within, is_tracked, is_legal, are_legal, step_marks}
use Rattle.search_trim.specs.Slice.{is_wanted, wanting, wanting_all, rule_variables, Slice, with_prune, with_step, slice_from, step_variable, last_marks, slice_of}
use Rattle.search_trim.specs.Trims.{Trims}
use Rattle.search_trim.proofs.Boxes.{now_empty, has_one}
use Rattle.search_trim.proofs.Marks.{wanted_still, wanted_now, all_still, all_now}
use Rattle.search_trim.proofs.Steps.{Follows, follows_itself, follows_less, follows_without, follows_skip, removes_too, refutes_too, bound_mark}

-- the fewer steps are legal in b where the steps are in a; they have the same marks, and leave the same to what is wanted
record Does (g : Game) (i stop : ℕ) (t : Option Tracked) (marks : List Bool) (steps less : List Step) (a b : Box) : Type 0 where
  legal : are_legal g i stop t less b ≡ true
  marked : step_marks t less b ≡ step_marks t steps a
  after : Follows marks (after_steps steps a) (after_steps less b)

module _ (g : Game) (i stop : ℕ) (t : Option Tracked) (marks : List Bool) where
  -- what a slice of the steps does in all such boxes
  abbrev DoesAll : List Step → Slice → Type 0
  DoesAll steps r = (a b : Box) → are_legal g i stop t steps a ≡ true → Follows r.marks a b → Does g i stop t marks steps r.less a b

  bound_does : (x : VarId) (low high : ℤ) (steps : List Step) (r : Slice) → DoesAll steps r → DoesAll (Bound x low high ∷ steps) (with_step g (Bound x low high) r)
  bound_does x low high steps r d a b h f =
      let s = Bound x low high in
      let p = and_parts (is_legal g i stop t s a) (are_legal g i stop t steps (after_step s a)) h in
      let q = and_parts (removes_some a x.0 low high) (is_tracked x.0 t) p.0 in
      let e = f.same x.0 (wanted_now r.marks x.0) in
      let k = follows_less (wanting r.marks x.0) r.marks a b (λ y w. wanted_still r.marks x.0 y w) f in
      let later = d (after_step s a) (after_step s b) p.1 (follows_without r.marks a b x.0 low high e k) in
      record {
        legal = and_from (is_legal g i stop t s b) (are_legal g i stop t r.less (after_step s b))
            (and_from (removes_some b x.0 low high) (is_tracked x.0 t) (removes_too r.marks a b x.0 low high e k q.0) q.1) later.legal;
        marked = bound_mark t x low high steps r.less a b e later.marked;
        after = later.after;
      }

  prune_kept : (x : VarId) (low high : ℤ) (c : ConId) (steps : List Step) (r : Slice) → is_wanted r.marks x.0 ≡ true → DoesAll steps r → DoesAll (Prune x low high c ∷ steps) (with_prune g (Prune x low high c) c.0 r)
  prune_kept x low high c steps r w d a b h f =
      let s = Prune x low high c in
      let o = slice_get g.constraints c.0 in
      let more = wanting_all r.marks (rule_variables o) in
      let p = and_parts (is_legal g i stop t s a) (are_legal g i stop t steps (after_step s a)) h in
      let q = and_parts (removes_some a x.0 low high) (is_refuted_within i stop o (box_within a x.0 low high)) p.0 in
      let k = follows_less more r.marks a b (λ y v. all_still r.marks (rule_variables o) y v) f in
      let e = k.same x.0 w in
      let later = d (after_step s a) (after_step s b) p.1 (follows_without r.marks a b x.0 low high e k) in
      record {
        legal = and_from (is_legal g i stop t s b) (are_legal g i stop t r.less (after_step s b))
            (and_from (removes_some b x.0 low high) (is_refuted_within i stop o (box_within b x.0 low high))
            (removes_too r.marks a b x.0 low high e k q.0)
            (refutes_too i stop more o a b x.0 low high (all_now r.marks (rule_variables o)) e f q.1)) later.legal;
        marked = later.marked;
        after = later.after;
      }

  prune_left_out : (x : VarId) (low high : ℤ) (c : ConId) (steps : List Step) (r : Slice) → is_wanted r.marks x.0 ≡ false → DoesAll steps r → DoesAll (Prune x low high c ∷ steps) r
  prune_left_out x low high c steps r w d a b h f =
      let s = Prune x low high c in
      let p = and_parts (is_legal g i stop t s a) (are_legal g i stop t steps (after_step s a)) h in
      let later = d (after_step s a) b p.1 (follows_skip r.marks a b x.0 low high w f) in
      record { legal = later.legal; marked = later.marked; after = later.after }

  prune_does : (x : VarId) (low high : ℤ) (c : ConId) (steps : List Step) (r : Slice) → DoesAll steps r → (w : Bool) → is_wanted r.marks x.0 ≡ w →
      DoesAll (Prune x low high c ∷ steps) (cond w (with_prune g (Prune x low high c) c.0 r) r)
  prune_does x low high c steps r d true e = prune_kept x low high c steps r e d
  prune_does x low high c steps r d false e = prune_left_out x low high c steps r e d

  slice_does : (steps : List Step) → DoesAll steps (slice_from g marks steps)
  slice_does [] = λ a b h f. record { legal = refl; marked = refl; after = f }
  slice_does (Prune x low high c ∷ steps) =
      let r = slice_from g marks steps in
      prune_does x low high c steps r (slice_does steps) (is_wanted r.marks x.0) refl
  slice_does (Bound x low high ∷ steps) = bound_does x low high steps (slice_from g marks steps) (slice_does steps)

-- the variable of the last step has a place in the box, and no value left
abbrev IsLastEmpty : Option Step → Box → Type 0
IsLastEmpty o box = (s : Step) → o ≡ Some s → (step_variable s < length box) × (is_none_left (values_left box (step_variable s)) ≡ true)

step_empties : (s : Step) (box : Box) → has_empty box ≡ false → has_empty (after_step s box) ≡ true →
    (step_variable s < length (after_step s box)) × (is_none_left (values_left (after_step s box) (step_variable s)) ≡ true)
step_empties (Prune x low high c) box h e = now_empty box x.0 (values_outside low high (values_left box x.0)) h e
step_empties (Bound x low high) box h e = now_empty box x.0 (values_outside low high (values_left box x.0)) h e

legal_full : (g : Game) (i stop : ℕ) (t : Option Tracked) (s : Step) (box : Box) → is_legal g i stop t s box ≡ true → has_empty box ≡ false
legal_full g i stop t (Prune x low high c) box h =
    let p = and_parts (removes_some box x.0 low high) (is_refuted_within i stop (slice_get g.constraints c.0) (box_within box x.0 low high)) h in
    not_false (has_empty box) (and_parts (not (has_empty box)) (not (is_none_left (values_within low high (values_left box x.0)))) p.0).0
legal_full g i stop t (Bound x low high) box h =
    let p = and_parts (removes_some box x.0 low high) (is_tracked x.0 t) h in
    not_false (has_empty box) (and_parts (not (has_empty box)) (not (is_none_left (values_within low high (values_left box x.0)))) p.0).0

-- so the box after trimmed steps that follow has an empty domain too
ends_too : (g : Game) (i stop : ℕ) (t : Option Tracked) (steps : List Step) (box b : Box) → are_legal g i stop t steps box ≡ true → has_empty box ≡ false → has_empty (after_steps steps box) ≡ true →
    Follows (last_marks steps) (after_steps steps box) b → has_empty b ≡ true
ends_too g i stop t [] box b h n e f = cc
ends_too g i stop t (s ∷ []) box b h n e f =
    let x = step_variable s in
    let r = step_empties s box n e in
    has_one b x (subst (λ m. x < m) f.size r.0) (sym (ap is_none_left (f.same x (wanted_now (replicate 500 false) x))) ∙ r.1)
ends_too g i stop t (s ∷ r ∷ steps) box b h n e f =
    let p = and_parts (is_legal g i stop t s box) (are_legal g i stop t (r ∷ steps) (after_step s box)) h in
    let q = and_parts (is_legal g i stop t r (after_step s box)) (are_legal g i stop t steps (after_step r (after_step s box))) p.1 in
    ends_too g i stop t (r ∷ steps) (after_step s box) b p.1 (legal_full g i stop t r (after_step s box) q.0) e f

-- the slice has no other steps
step_passes : (g : Game) (p : Step → Bool) (s : Step) (r : Slice) → p s ≡ true → list_all p r.less ≡ true → list_all p (with_step g s r).less ≡ true
step_passes g p (Prune x low high c) r e h = by (is_wanted r.marks x.0)
  where
    by : (w : Bool) → list_all p (cond w (with_prune g (Prune x low high c) c.0 r) r).less ≡ true
    by true = and_from (p (Prune x low high c)) (list_all p r.less) e h
    by false = h
step_passes g p (Bound x low high) r e h = and_from (p (Bound x low high)) (list_all p r.less) e h

slice_passes : (g : Game) (p : Step → Bool) (marks : List Bool) (steps : List Step) → list_all p steps ≡ true → list_all p (slice_from g marks steps).less ≡ true
slice_passes g p marks [] e = refl
slice_passes g p marks (s ∷ steps) e =
    let k = and_parts (p s) (list_all p steps) e in
    step_passes g p s (slice_from g marks steps) k.0 (slice_passes g p marks steps k.1)

pub slice_trims : (g : Game) (steps : List Step) → Trims g steps (slice_of g steps)
slice_trims g steps = record {
  right = λ i stop t box h n e. (
      let marks = last_marks steps in
      let d = slice_does g i stop t marks steps box box h (follows_itself (slice_from g marks steps).marks box) in
      record { legal = d.legal; empties = ends_too g i stop t steps box (after_steps (slice_of g steps) box) h n e d.after; marks = d.marked }
      );
  tests = λ p e. slice_passes g p (last_marks steps) steps e;
}
