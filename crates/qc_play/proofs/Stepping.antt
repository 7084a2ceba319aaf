-- Removals, one after the other.
use Rattle.std.proofs.Common.{◌≡◌, ℕ, suc, ◌+◌, ◌<◌, Bool, true, false, not, ◌&&◌, cond, List, [], ◌∷◌, ◌++◌, length, map, drop, refl, sym, ap, ◌∙◌, subst, arith, ℤ, Some, None, Option, append_assoc, append-nil}
use Rattle.std.specs.Prelude.{slice_get}
use Rattle.std.proofs.lemmas.Bool.{and_parts}
use Rattle.qc_model.specs.declared.problem.Condition.{Condition}
use Rattle.qc_model.specs.declared.problem.Kind.{Kind}
use Rattle.qc_model.specs.declared.problem.Kind.TheVariants.{Exists, Forall}
use Rattle.qc_model.specs.declared.problem.Scope.{Scope}
use Rattle.qc_model.specs.declared.problem.Target.{Target}
use Rattle.qc_model.specs.declared.problem.Target.TheVariants.{Var, Aggregate as Agg}
use Rattle.qc_model.specs.declared.problem.VarId.{VarId}
use Rattle.qc_model.specs.declared.problem.ConId.{ConId}
use Rattle.qc_model.specs.Block.{force_stop, no_condition_to, of_kind}
use Rattle.qc_model.specs.Content.{Game}
use Rattle.qc_model.specs.Demands.{demands}
use Rattle.qc_model.specs.Domains.{Box, has_empty, is_none_left, values_left, values_within, is_within, box_within, box_without}
use Rattle.qc_model.specs.Verdict.{Seen, seen_bound}
use Rattle.model_arguments.specs.Asked.{is_box_of}
use Rattle.joins.specs.Joins.{game_of as game_joined, StandsAt, KeepsOthers}
use Rattle.joins.specs.declared.joins.Joins.{Joins}
use Rattle.fd_store.specs.Held.{Held, Follows}
use Rattle.check_lines.specs.Tracking.{tracked_at}
use Rattle.check_box.proofs.Placing.{at_filtered}
use Rattle.box_laws.proofs.Readings.{some_place}
use Rattle.check_lines.proofs.Tracking.{tracked_is}
use Rattle.proof_tree.specs.declared.tree.Step.{Step}
use Rattle.proof_tree.specs.declared.tree.Step.TheVariants.{Prune, Bound}
use Rattle.proof_tree.specs.Place.{Tracked, owner_of, tracked_first, tracked_target, tracked_variable}
use Rattle.proof_tree.specs.Steps.{after_step, after_steps, best_value, is_legal, is_refuted_within, is_tracked, removes_some, step_marks}
use Rattle.qc_play.specs.declared.walk.Walk.{Walk}
use Rattle.qc_play.specs.Walk.{steps_fit, marks_seen, IsWithin, Keeps, LeadsOn}
use Rattle.qc_play.proofs.Backs.{keeps_self, keeps_store, follows_self, on_then, within_kept}

-- the mark of a bound is the best of the values that go, by what the list wishes for first
module _ (g : Game) (x : VarId) (lo hi : ℤ) (box : Box) (r : ℤ) where
  -- so it is, where this variable is tracked
  abbrev Marks : Option Tracked → Type 0
  Marks t = is_tracked x.0 t ≡ true → step_marks t (Bound x lo hi ∷ []) box ≡ r ∷ []

  target_marks : (later : List Scope) (i : ℕ) (c : Condition) (t : Target) → r ≡ best_value c.sense (values_within lo hi (values_left box x.0)) → Marks (tracked_target g later i c.sense t)
  target_marks later i c (Agg q) e = λ k. cc
  target_marks later i c (Var y) e = by (no_condition_to (owner_of (slice_get g.variables y.0)) later i)
    where
      by : (b : Bool) → Marks (cond b (Some (record { sense = c.sense; variable = y.0 })) None)
      by true = λ k. ap (λ v. v ∷ []) (sym e)
      by false = λ k. cc

  pub no_marks : (later : List Scope) (i : ℕ) → Marks (tracked_variable g later i [])
  no_marks [] i = λ k. cc
  no_marks (s ∷ later) i = by s.kind
    where
      by : (q : Kind) → Marks (of_kind q (tracked_first g later (suc i) []) None)
      by Exists = λ k. cc
      by Forall = λ k. cc

  pub first_marks : (later : List Scope) (i : ℕ) (c : Condition) (d : List Condition) → r ≡ best_value c.sense (values_within lo hi (values_left box x.0)) → Marks (tracked_variable g later i (c ∷ d))
  first_marks [] i c d e = λ k. cc
  first_marks (s ∷ later) i c d e = by s.kind
    where
      by : (q : Kind) → Marks (of_kind q (tracked_first g later (suc i) (c ∷ d)) None)
      by Exists = target_marks later (suc i) c c.target e
      by Forall = λ k. cc

-- steps that fit, one by one
abbrev stop_at : Game → ℕ → ℕ
stop_at g i = force_stop (drop i g.scopes) i

legal_one : (g : Game) (i : ℕ) (s : Step) (box : Box) → steps_fit g (s ∷ []) i box ≡ true → is_legal g i (stop_at g i) (tracked_at g i) s box ≡ true
legal_one g i s box e = (and_parts (is_legal g i (stop_at g i) (tracked_at g i) s box) true e).0

pub first_fits : (g : Game) (i : ℕ) (s : Step) (steps : List Step) (box : Box) → steps_fit g (s ∷ steps) i box ≡ true → steps_fit g (s ∷ []) i box ≡ true
first_fits g i s steps box e = one (is_legal g i (stop_at g i) (tracked_at g i) s box) (and_parts (is_legal g i (stop_at g i) (tracked_at g i) s box) (steps_fit g steps i (after_step s box)) e).0
  where
    one : (a : Bool) → a ≡ true → (a && true) ≡ true
    one a f = ap (λ b. b && true) f

pub others_fit : (g : Game) (i : ℕ) (s : Step) (steps : List Step) (box : Box) → steps_fit g (s ∷ steps) i box ≡ true → steps_fit g steps i (after_step s box) ≡ true
others_fit g i s steps box e = (and_parts (is_legal g i (stop_at g i) (tracked_at g i) s box) (steps_fit g steps i (after_step s box)) e).1

-- the values that a step takes are there
some_within : (box : Box) (x : ℕ) (lo hi : ℤ) (b : Bool) → (removes_some box x lo hi && b) ≡ true → not (is_none_left (values_within lo hi (values_left box x))) ≡ true
some_within box x lo hi b e = (and_parts (not (has_empty box)) (not (is_none_left (values_within lo hi (values_left box x)))) (and_parts (removes_some box x lo hi) b e).0).1

pub prune_some : (g : Game) (i : ℕ) (x : VarId) (lo hi : ℤ) (c : ConId) (box : Box) → steps_fit g (Prune x lo hi c ∷ []) i box ≡ true → x.0 < length box
prune_some g i x lo hi c box e = some_place box x.0 lo hi (some_within box x.0 lo hi (is_refuted_within i (stop_at g i) (slice_get g.constraints c.0) (box_within box x.0 lo hi)) (legal_one g i (Prune x lo hi c) box e))

pub bound_some : (g : Game) (i : ℕ) (x : VarId) (lo hi : ℤ) (box : Box) → steps_fit g (Bound x lo hi ∷ []) i box ≡ true → not (is_none_left (values_within lo hi (values_left box x.0))) ≡ true
bound_some g i x lo hi box e = some_within box x.0 lo hi (is_tracked x.0 (tracked_at g i)) (legal_one g i (Bound x lo hi) box e)

pub bound_place : (g : Game) (i : ℕ) (x : VarId) (lo hi : ℤ) (box : Box) → steps_fit g (Bound x lo hi ∷ []) i box ≡ true → x.0 < length box
bound_place g i x lo hi box e = some_place box x.0 lo hi (bound_some g i x lo hi box e)

pub bound_left : (g : Game) (i : ℕ) (x : VarId) (lo hi : ℤ) (box : Box) → steps_fit g (Bound x lo hi ∷ []) i box ≡ true → is_none_left (values_within lo hi (values_left box x.0)) ≡ false
bound_left g i x lo hi box e = by (is_none_left (values_within lo hi (values_left box x.0))) (bound_some g i x lo hi box e)
  where
    by : (b : Bool) → not b ≡ true → b ≡ false
    by true k = cc
    by false k = refl

bound_tracked : (g : Game) (i : ℕ) (x : VarId) (lo hi : ℤ) (box : Box) → steps_fit g (Bound x lo hi ∷ []) i box ≡ true → is_tracked x.0 (tracked_at g i) ≡ true
bound_tracked g i x lo hi box e = (and_parts (removes_some box x.0 lo hi) (is_tracked x.0 (tracked_at g i)) (legal_one g i (Bound x lo hi) box e)).1

-- the mark of a bound, by the list after the scope
pub bound_marks : (g : Game) (i : ℕ) (x : VarId) (lo hi r : ℤ) (box : Box) (d : List Condition) → i < length g.scopes → d ≡ demands g (i + 1) → steps_fit g (Bound x lo hi ∷ []) i box ≡ true →
    ((g : Game) (later : List Scope) (i : ℕ) → is_tracked x.0 (tracked_variable g later i d) ≡ true → step_marks (tracked_variable g later i d) (Bound x lo hi ∷ []) box ≡ r ∷ []) → marks_seen g i (Bound x lo hi ∷ []) box ≡ seen_bound r ∷ []
bound_marks g i x lo hi r box d l e fits best =
    let t = tracked_is g i d l e in
    ap (map seen_bound) (ap (λ o. step_marks o (Bound x lo hi ∷ []) box) (sym t) ∙ best g (drop i g.scopes) i (ap (is_tracked x.0) t ∙ bound_tracked g i x lo hi box fits))

-- the marks of a step, and those of the steps after it
marks_then : (g : Game) (i : ℕ) (s : Step) (steps : List Step) (box : Box) → marks_seen g i (s ∷ steps) box ≡ marks_seen g i (s ∷ []) box ++ marks_seen g i steps (after_step s box)
marks_then g i s steps box = go (tracked_at g i) s
  where
    go : (t : Option Tracked) (s : Step) → map seen_bound (step_marks t (s ∷ steps) box) ≡ map seen_bound (step_marks t (s ∷ []) box) ++ map seen_bound (step_marks t steps (after_step s box))
    go t (Prune y l h c) = refl
    go None (Bound y l h) = refl
    go (Some t) (Bound y l h) = refl

-- after a removal
pub cut_within : (g : Game) (i : ℕ) (a b : Walk) (x : ℕ) (lo hi : ℤ) → IsWithin g a i → Keeps g i a b → b.remains.box ≡ box_without a.remains.box x lo hi → is_box_of g b.remains.box ≡ true → IsWithin g b i
cut_within g i a b x lo hi h k e d = within_kept g i a b h k d (at_filtered g i a.values.items a.remains.box b.remains.box x (λ v. not (is_within lo hi v)) e h.placed)

pub cut_leads : (g : Game) (i : ℕ) (w : Walk) (t : Held) → IsWithin g w i → Follows w.remains t → LeadsOn g i w (record w { remains = t })
cut_leads g i w t h f = record { keeps = keeps_store g i w t h; past = f }

pub bound_leads : (g : Game) (i : ℕ) (w : Walk) (t : Held) (js : Joins) → IsWithin g w i → Follows w.remains t → game_joined js ≡ game_joined w.joins → KeepsOthers i w.joins js → LeadsOn g i w (record w { remains = t; joins = js })
bound_leads g i w t js h f e k = record {
  keeps = record { joined = e; joins = λ j xs l s. k j xs (λ q. absurd (omega (arith, l, q))) s; values = refl; each = refl; numbers = h.numbers };
  past = f;
}

pub bound_within : (g : Game) (i : ℕ) (w : Walk) (t : Held) (js : Joins) (x : ℕ) (lo hi : ℤ) → IsWithin g w i → game_joined js ≡ game_joined w.joins → t.box ≡ box_without w.remains.box x lo hi → is_box_of g t.box ≡ true → IsWithin g (record w { remains = t; joins = js }) i
bound_within g i w t js x lo hi h q e d = record {
  joined = q ∙ h.joined;
  each = h.each;
  numbers = h.numbers;
  declared = d;
  placed = at_filtered g i w.values.items w.remains.box t.box x (λ v. not (is_within lo hi v)) e h.placed;
}

-- some of all steps are taken, and the rest isn't
pub record Stepped (g : Game) (i : ℕ) (all rest : List Step) (old new : Walk) : Type 0 where
  pub fits : steps_fit g rest i new.remains.box ≡ true
  pub box : after_steps rest new.remains.box ≡ after_steps all old.remains.box
  pub within : IsWithin g new i
  pub on : LeadsOn g i old new
  pub stands : (xs : List Seen) → StandsAt old.joins i xs → (ys : List Seen) × StandsAt new.joins i ys × (ys ++ marks_seen g i rest new.remains.box ≡ xs ++ marks_seen g i all old.remains.box)

pub none_stepped : (g : Game) (i : ℕ) (all : List Step) (w : Walk) → IsWithin g w i → steps_fit g all i w.remains.box ≡ true → Stepped g i all all w w
none_stepped g i all w h e = record {
  fits = e;
  box = refl;
  within = h;
  on = record { keeps = keeps_self g i w h; past = follows_self w.remains };
  stands = λ xs k. (xs, k, refl);
}

pub one_stepped : (g : Game) (i : ℕ) (all : List Step) (s : Step) (rest : List Step) (old mid new : Walk) → Stepped g i all (s ∷ rest) old mid → new.remains.box ≡ after_step s mid.remains.box → IsWithin g new i → LeadsOn g i mid new →
    ((xs : List Seen) → StandsAt mid.joins i xs → StandsAt new.joins i (xs ++ marks_seen g i (s ∷ []) mid.remains.box)) → Stepped g i all rest old new
one_stepped g i all s rest old mid new h e within on stands = record {
  fits = subst (λ b. steps_fit g rest i b ≡ true) (sym e) (others_fit g i s rest mid.remains.box h.fits);
  box = ap (after_steps rest) e ∙ h.box;
  within = within;
  on = on_then g i old mid new h.on on;
  stands = λ xs k.
      let m = h.stands xs k in (
        m.0 ++ marks_seen g i (s ∷ []) mid.remains.box,
        stands m.0 m.1,
        ap (λ b. (m.0 ++ marks_seen g i (s ∷ []) mid.remains.box) ++ marks_seen g i rest b) e
            ∙ (append_assoc m.0 (marks_seen g i (s ∷ []) mid.remains.box) (marks_seen g i rest (after_step s mid.remains.box))
            ∙ (ap (λ us. m.0 ++ us) (sym (marks_then g i s rest mid.remains.box)) ∙ m.2)),
      );
}

pub all_stepped : (g : Game) (i : ℕ) (all : List Step) (old new : Walk) → Stepped g i all [] old new → (xs : List Seen) → StandsAt old.joins i xs → StandsAt new.joins i (xs ++ marks_seen g i all old.remains.box)
all_stepped g i all old new h xs k = let m = h.stands xs k in subst (StandsAt new.joins i) (sym (append-nil m.0) ∙ m.2) m.1
