-- What a case that is taken does to the box: a bound, and closing after it.
use Rattle.std.proofs.Common.{◌≡◌, ◌∙◌, ◌<◌, ◌+◌, ◌*◌, ℕ, zero, suc, refl, sym, ap, subst, arith, Bool, true, false, not, ◌&&◌, ◌||◌, List, [], ◌∷◌, ◌++◌, length, drop, filter, ℤ, ◌≤ℤ◌, Option, None, Some, Result, Ok, Err, OnOk}
use Rattle.std.specs.Prelude.{cond, int_lt, int_le, set}
use Rattle.std.specs.Int.{int_max, int_min}
use Rattle.std.proofs.lemmas.Int.{ints}
use Rattle.std.specs.declared.alloc.AllocError.{AllocError}
use Rattle.std.specs.List.{list_all}
use Rattle.std.specs.Ordering.{int_eq}
use Rattle.std.proofs.lemmas.Bool.Decides.{Decides-int_eq, nat_tests}
use Rattle.std.proofs.lemmas.List.{append-nil}
use Rattle.std.proofs.lemmas.Bool.{and_from, and_parts, or_from}
use Rattle.qc_model.specs.declared.problem.Sense.{Sense}
use Rattle.qc_model.specs.declared.problem.Sense.TheVariants.{Min, Max}
use Rattle.qc_model.specs.declared.problem.Condition.{Condition}
use Rattle.qc_model.specs.declared.problem.VarId.{VarId}
use Rattle.qc_model.specs.declared.problem.Scope.{Scope}
use Rattle.qc_model.specs.Content.{Game}
use Rattle.qc_model.specs.Demands.{demands}
use Rattle.qc_model.specs.Domains.{Box, Values, values_left, values_within, values_outside, is_within, is_none_left, is_sub_box, has_value, is_ascending, least_from, greatest_from, greatest_value}
use Rattle.qc_model.specs.Optimal.{is_better}
use Rattle.qc_model.specs.Valid.{is_number}
use Rattle.qc_model.specs.Verdict.{Seen, seen_bound}
use Rattle.proof_tree.specs.declared.tree.Step.{Step}
use Rattle.proof_tree.specs.declared.tree.Step.TheVariants.{Bound}
use Rattle.proof_tree.specs.Incumbents.{has_no_worse}
use Rattle.proof_tree.specs.InPlace.{steps_in_place}
use Rattle.proof_tree.specs.Order.{settles}
use Rattle.proof_tree.specs.Place.{Tracked, tracked_variable, list_after}
use Rattle.proof_tree.specs.Steps.{after_steps, best_value, step_marks}
use Rattle.joins.specs.Joins.{StandsAt}
use Rattle.joins.specs.Sizes.{HasSizes}
use Rattle.joins.specs.declared.joins.Joins.{Joins}
use Rattle.prop_engine.specs.declared.answer.Closed.{Closed}
use Rattle.fd_store.specs.Held.{values_from}
use Rattle.search_box.specs.Rests.{IsFirst, IsLast}
use Rattle.proof_tree.specs.Text.{step_fits}
use Rattle.search_box.specs.Bounds.{tracked_as, IsBounded, IsUnbounded, BoundAnswers}
use Rattle.search_box.specs.Closes.{IsPruned}
use Rattle.search_box.specs.declared.bounding.Bounded.{Bounded}
use Rattle.search_box.proofs.Goings.{steps_reach, placed_both, marks_both}
use Rattle.search_walk.specs.Aims.{tracked_at, IsNoWorse, IsSpan, IsWorse, IsWorseHere, NoneWorse}
use Rattle.search_parts.specs.Beaten.{firsts, seen_bounds}
use Rattle.search_parts.specs.Made.{StepsMade}
use Rattle.search_walk.specs.Narrowed.{NarrowTold, FirstNarrowed}
use Rattle.search_parts.specs.Settled.{is_settled}
use Rattle.search_walk.specs.Put.{IsReady, BoundedSteps}
use Rattle.search_walk.specs.declared.aim.Worse.{Worse}
use Rattle.search_parts.proofs.Beating.{no_worse_yet}
use Rattle.search_walk.proofs.Here.{settled_here, bare_steps}
use Rattle.search_parts.proofs.Joining.{settled-append}
use Rattle.search_parts.proofs.Marks.{some_marks}
use Rattle.search_parts.proofs.Sizes.{sizes_none}
use Rattle.joins.proofs.Sizing.{sizes_both, sizes_bound}

-- ---- values of a variable
-- each of the values is no worse than what is reached
all_no_worse : (joins : Joins) (i : ℕ) (s : Sense) (before : List Seen) (vs : Values) → StandsAt joins i before → ((v : ℤ) → has_value vs v ≡ true → IsNoWorse joins i s v) → list_all (λ v. list_all (λ n. not (is_better s n v)) (firsts before)) vs ≡ true
all_no_worse joins i s before [] stands h = refl
all_no_worse joins i s before (v ∷ vs) stands h =
    and_from _ _ (h v (ap (λ b. b || has_value vs v) ((Decides-int_eq v v).1 refl)) before stands) (all_no_worse joins i s before vs stands (λ u e. h u (later (int_eq u v) (has_value vs u) e)))
  where
    later : (a b : Bool) → b ≡ true → (a || b) ≡ true
    later true b e = refl
    later false b e = e

-- a test that holds of all values holds of one of them
one_of : (p : ℤ → Bool) (vs : Values) (v : ℤ) → list_all p vs ≡ true → has_value vs v ≡ true → p v ≡ true
one_of p [] v h e = cc
one_of p (u ∷ vs) v h e =
    let r = and_parts (p u) (list_all p vs) h in
    by (int_eq v u) refl e r.0 (one_of p vs v r.1)
  where
    by : (b : Bool) → int_eq v u ≡ b → (b || has_value vs v) ≡ true → p u ≡ true → (has_value vs v ≡ true → p v ≡ true) → p v ≡ true
    by true q e here rest = subst (λ w. p w ≡ true) (sym ((Decides-int_eq v u).0 q)) here
    by false q e here rest = rest e

-- where none of them is from low to high, one of them isn't
not_within : (low high : ℤ) (vs : Values) (v : ℤ) → is_none_left (values_within low high vs) ≡ true → has_value vs v ≡ true → is_within low high v ≡ false
not_within low high [] v h e = cc
not_within low high (u ∷ vs) v h e = by (is_within low high u) refl (int_eq v u) refl h e (not_within low high vs v)
  where
    by : (b : Bool) → is_within low high u ≡ b → (c : Bool) → int_eq v u ≡ c → is_none_left (cond b (u ∷ values_within low high vs) (values_within low high vs)) ≡ true → (c || has_value vs v) ≡ true →
        (is_none_left (values_within low high vs) ≡ true → has_value vs v ≡ true → is_within low high v ≡ false) → is_within low high v ≡ false
    by true p c q h e rest = cc
    by false p true q h e rest = ap (is_within low high) ((Decides-int_eq v u).0 q) ∙ p
    by false p false q h e rest = rest h e

-- what is kept outside is outside, and one of the values
outside_is : (low high : ℤ) (vs : Values) (v : ℤ) → has_value (values_outside low high vs) v ≡ true → (is_within low high v ≡ false) × (has_value vs v ≡ true)
outside_is low high [] v e = cc
outside_is low high (u ∷ vs) v e = by (is_within low high u) refl (int_eq v u) refl e (outside_is low high vs v)
  where
    by : (b : Bool) → is_within low high u ≡ b → (c : Bool) → int_eq v u ≡ c → has_value (cond (not b) (u ∷ values_outside low high vs) (values_outside low high vs)) v ≡ true →
        (has_value (values_outside low high vs) v ≡ true → (is_within low high v ≡ false) × (has_value vs v ≡ true)) → (is_within low high v ≡ false) × ((c || has_value vs v) ≡ true)
    by true p true q e rest = let r = rest e in (r.0, refl)
    by true p false q e rest = rest e
    by false p true q e rest = (ap (is_within low high) ((Decides-int_eq v u).0 q) ∙ p, refl)
    by false p false q e rest = rest (sym (ap (λ b. b || has_value (values_outside low high vs) v) q) ∙ e)

-- the best of the values from low to high is one of these
least_is : (p : ℤ → Bool) (v : ℤ) (vs : Values) → p v ≡ true → list_all p vs ≡ true → p (least_from v vs) ≡ true
least_is p v [] h k = h
least_is p v (u ∷ vs) h k = let r = and_parts (p u) (list_all p vs) k in least_is p (cond (int_lt u v) u v) vs (by (int_lt u v) r.0) r.1
  where
    by : (b : Bool) → p u ≡ true → p (cond b u v) ≡ true
    by true q = q
    by false q = h

greatest_is : (p : ℤ → Bool) (v : ℤ) (vs : Values) → p v ≡ true → list_all p vs ≡ true → p (greatest_from v vs) ≡ true
greatest_is p v [] h k = h
greatest_is p v (u ∷ vs) h k = let r = and_parts (p u) (list_all p vs) k in greatest_is p (cond (int_lt v u) u v) vs (by (int_lt v u) r.0) r.1
  where
    by : (b : Bool) → p u ≡ true → p (cond b u v) ≡ true
    by true q = q
    by false q = h

best_is : (p : ℤ → Bool) (s : Sense) (vs : Values) → is_none_left vs ≡ false → list_all p vs ≡ true → p (best_value s vs) ≡ true
best_is p s [] h k = cc
best_is p Min (v ∷ vs) h k = let r = and_parts (p v) (list_all p vs) k in least_is p v vs r.0 r.1
best_is p Max (v ∷ vs) h k = let r = and_parts (p v) (list_all p vs) k in greatest_is p v vs r.0 r.1

-- a test of the values holds of those of them that pass another
all_filter : (p q : ℤ → Bool) (vs : Values) → list_all p vs ≡ true → list_all (λ v. p v && q v) (filter q vs) ≡ true
all_filter p q [] h = refl
all_filter p q (v ∷ vs) h = let r = and_parts (p v) (list_all p vs) h in by (q v) refl r.0 (all_filter p q vs r.1)
  where
    by : (b : Bool) → q v ≡ b → p v ≡ true → list_all (λ v. p v && q v) (filter q vs) ≡ true → list_all (λ v. p v && q v) (cond b (v ∷ filter q vs) (filter q vs)) ≡ true
    by true e h rest = and_from (p v && q v) _ (and_from (p v) (q v) h e) rest
    by false e h rest = rest

-- ---- a smaller box keeps no worse values
smaller_values : (p : ℤ → Bool) (small box : Box) (x : ℕ) → is_sub_box small box ≡ true → list_all p (values_left box x) ≡ true → list_all p (values_left small x) ≡ true
smaller_values p [] [] x e h = h
smaller_values p [] (d ∷ box) x e h = cc
smaller_values p (c ∷ small) [] x e h = cc
smaller_values p (c ∷ small) (d ∷ box) zero e h =
    let r = and_parts (is_ascending c && list_all (has_value d) c) (is_sub_box small box) e in
    let q = and_parts (is_ascending c) (list_all (has_value d) c) r.0 in
    each c q.1
  where
    each : (vs : Values) → list_all (has_value d) vs ≡ true → list_all p vs ≡ true
    each [] k = refl
    each (v ∷ vs) k = let r = and_parts (has_value d v) (list_all (has_value d) vs) k in and_from (p v) (list_all p vs) (one_of p d v h r.0) (each vs r.1)
smaller_values p (c ∷ small) (d ∷ box) (suc x) e h =
    let r = and_parts (is_ascending c && list_all (has_value d) c) (is_sub_box small box) e in
    smaller_values p small box x r.1 h

smaller_no_worse : (t : Option Tracked) (ns : List ℤ) (small box : Box) → is_sub_box small box ≡ true → has_no_worse t ns box ≡ true → has_no_worse t ns small ≡ true
smaller_no_worse None ns small box e h = refl
smaller_no_worse (Some t) ns small box e h = smaller_values (λ v. list_all (λ n. not (is_better t.sense n v)) ns) small box t.variable e h

read_set : (box : Box) (x : ℕ) (vs : Values) → x < length box → values_left (set box x vs) x ≡ vs
read_set [] x vs h = absurd (omega arith)
read_set (d ∷ box) zero vs h = refl
read_set (d ∷ box) (suc x) vs h = read_set box x vs (omega arith)

-- ---- marks
unnot : (b : Bool) → not b ≡ true → b ≡ false
unnot true e = cc
unnot false e = refl

-- one is one of the values that went
pub mark_is : (g : Game) (i : ℕ) (box : Box) → ((x : ℕ) → list_all is_number (values_left box x) ≡ true) → (w : Worse) → tracked_at g i ≡ Some (tracked_as w.sense w.variable) → (left : Box) (steps : List Step) (b : Bounded) → IsBounded w.sense w.variable w.lo w.hi box left [] steps b →
    (is_number b.best ≡ true) × (is_within w.lo w.hi b.best ≡ true)
mark_is g i box numbers w tracked left steps b u =
    let vs = values_left box w.variable.0 in
    let p : (ℤ → Bool) = λ v. is_number v && is_within w.lo w.hi v in
    let some : is_none_left (values_within w.lo w.hi vs) ≡ false = unnot _ (and_parts _ _ (and_parts _ _ (and_parts _ _ (u.placed g (drop i g.scopes) i (demands g i) tracked)).0).0).1 in
    and_parts _ _ (ap p u.best ∙ best_is p w.sense (values_within w.lo w.hi vs) some (all_filter is_number (is_within w.lo w.hi) vs (numbers w.variable.0)))

mark_small : (v : ℤ) → is_number v ≡ true → HasSizes 1 (seen_bound v ∷ [])
mark_small v e = sizes_bound 0 [] v (sizes_none 0) (grind (arith, nat_tests))

-- ---- what is given up
module _ (g : Game) (i : ℕ) (box : Box) (joins : Joins) (before : List Seen) (numbers : (x : ℕ) → list_all is_number (values_left box x) ≡ true) (stands : StandsAt joins i before) where
  -- nothing, since nothing is worse
  pub nothing_lost : NoneWorse g i joins → (steps : List Step) → steps ≡ [] → NarrowTold g i box box before joins steps
  nothing_lost none steps e = record {
    ms = [];
    stepped = record {
      reached = ap (λ ss. after_steps ss box) (sym e);
      stepped = subst (λ (ss : List Step). StepsMade g (drop i g.scopes) i (demands g i) box [] ss) (sym e) (record { legal = refl; marked = refl; fits = refl });
      beaten = refl;
      one = sizes_none 1;
      worse = by (tracked_at g i) refl;
    };
    stands = subst (StandsAt joins i) (sym (append-nil before)) stands;
  }
    where
      by : (t : Option Tracked) → tracked_at g i ≡ t → has_no_worse t (firsts before) box ≡ true
      by None e = refl
      by (Some t) e = all_no_worse joins i t.sense before (values_left box t.variable) stands (λ v h. none t e v (one_of is_number (values_left box t.variable) v (numbers t.variable) h))

  module _ (w : Worse) (m : IsWorseHere g i joins box w) where
    -- nothing, since no worse value is left
    pub none_lost : (left : Box) (steps : List Step) → IsUnbounded w.variable w.lo w.hi box left [] steps → NarrowTold g i box left before joins steps
    none_lost left steps u =
        let vs = values_left box w.variable.0 in
        let each = all_no_worse joins i w.sense before vs stands (λ v h. m.stays v h (one_of is_number vs v (numbers w.variable.0) h) (not_within w.lo w.hi vs v u.none h)) in
        let worse : has_no_worse (tracked_at g i) (firsts before) box ≡ true = ap (λ (t : Option Tracked). has_no_worse t (firsts before) box) m.tracked ∙ each in
        record {
          ms = [];
          stepped = record {
            reached = u.reached ∙ ap (λ ss. after_steps ss box) (sym u.appended);
            stepped = subst (λ (ss : List Step). StepsMade g (drop i g.scopes) i (demands g i) box [] ss) (sym u.appended) (record { legal = refl; marked = refl; fits = refl });
            beaten = refl;
            one = sizes_none 1;
            worse = subst (λ (b : Box). has_no_worse (tracked_at g i) (firsts before) b ≡ true) (sym u.reached) worse;
          };
          stands = subst (StandsAt joins i) (sym (append-nil before)) stands;
        }

    -- the values from lo to hi
    pub some_lost : (left : Box) (steps : List Step) (b : Bounded) (told : Joins) (mark : ℤ) → w.variable.0 < length box → IsBounded w.sense w.variable w.lo w.hi box left [] steps b → mark ≡ b.best → StandsAt told i (before ++ seen_bound mark ∷ []) → NarrowTold g i box left before told steps
    some_lost left steps b told mark inside u same added =
        let vs = values_left box w.variable.0 in
        let bound = Bound w.variable w.lo w.hi in
        let k = mark_is g i box numbers w m.tracked left steps b u in
        let one : steps ≡ bound ∷ [] = u.appended in
        let reached : left ≡ after_steps steps box = u.reached ∙ ap (λ ss. after_steps ss box) (sym one) in
        let kept : values_left left w.variable.0 ≡ values_outside w.lo w.hi vs = ap (λ (d : Box). values_left d w.variable.0) u.reached ∙ read_set box w.variable.0 (values_outside w.lo w.hi vs) inside in
        let each = all_no_worse joins i w.sense before (values_left left w.variable.0) stands
        (λ v h. let o = outside_is w.lo w.hi vs v (subst (λ us. has_value us v ≡ true) kept h) in m.stays v o.1 (one_of is_number vs v (numbers w.variable.0) o.1) o.0) in
        record {
          ms = b.best ∷ [];
          stepped = record {
            reached = reached;
            stepped = subst (λ (ss : List Step). StepsMade g (drop i g.scopes) i (demands g i) box (b.best ∷ []) ss) (sym one) (record {
              legal = u.placed g (drop i g.scopes) i (demands g i) m.tracked;
              marked = sym (ap (λ (t : Option Tracked). step_marks t (bound ∷ []) box) m.tracked ∙ u.marked);
              fits = and_from _ _ u.fits refl;
            });
            beaten = and_from _ _ (m.goes b.best before k.0 k.1 stands) refl;
            one = mark_small b.best k.0;
            worse = ap (λ (t : Option Tracked). has_no_worse t (firsts before) left) m.tracked ∙ each;
          };
          stands = subst (λ n. StandsAt told i (before ++ seen_bound n ∷ [])) same added;
        }

-- ---- closing after it
-- more steps, of which none has a mark
more_steps_made : (g : Game) (later : List Scope) (i : ℕ) (d : List Condition) (box : Box) (ms : List ℤ) (ss ts : List Step) → StepsMade g later i d box ms ss → steps_in_place g later i d ts (after_steps ss box) ≡ true → step_marks (tracked_variable g later i (list_after g later d)) ts (after_steps ss box) ≡ [] →
    list_all step_fits ts ≡ true → StepsMade g later i d box ms (ss ++ ts)
more_steps_made g later i d box ms ss ts m e q f =
    let t = tracked_variable g later i (list_after g later d) in
    record {
      legal = placed_both g later i d ss ts box m.legal e;
      marked = m.marked ∙ (sym (append-nil (step_marks t ss box)) ∙ (ap (λ ns. step_marks t ss box ++ ns) (sym q) ∙ sym (marks_both t ss ts box)));
      fits = steps_fit ss ts m.fits f;
    }
  where
    steps_fit : (ss ts : List Step) → list_all step_fits ss ≡ true → list_all step_fits ts ≡ true → list_all step_fits (ss ++ ts) ≡ true
    steps_fit [] ts h k = k
    steps_fit (s ∷ ss) ts h k = let r = and_parts (step_fits s) (list_all step_fits ss) h in and_from (step_fits s) (list_all step_fits (ss ++ ts)) r.0 (steps_fit ss ts r.1 k)

closed_steps : (g : Game) (i : ℕ) (box mid left : Box) (before : List Seen) (ms : List ℤ) (given steps : List Step) → BoundedSteps g i box mid before ms given → IsPruned g i mid left given steps → is_sub_box left mid ≡ true → BoundedSteps g i box left before ms steps
closed_steps g i box mid left before ms given steps s p fewer =
    let later = drop i g.scopes in
    let d = demands g i in
    let legal = subst (λ (b : Box). steps_in_place g later i d p.more b ≡ true) s.reached (p.placed d) in
    let unmarked = subst (λ (b : Box). step_marks (tracked_variable g later i (list_after g later d)) p.more b ≡ []) s.reached (p.unmarked (tracked_variable g later i (list_after g later d))) in
    record {
      reached = p.reached ∙ (ap (after_steps p.more) s.reached ∙ (sym (steps_reach given p.more box) ∙ ap (λ ss. after_steps ss box) (sym p.appended)));
      stepped = subst (λ (ss : List Step). StepsMade g later i d box ms ss) (sym p.appended) (more_steps_made g later i d box ms given p.more s.stepped legal unmarked p.fits);
      one = s.one;
      worse = smaller_no_worse (tracked_at g i) (firsts before) left mid fewer s.worse;
    }

pub closed_told : (g : Game) (i : ℕ) (box mid left : Box) (before : List Seen) (joins : Joins) (given steps : List Step) → NarrowTold g i box mid before joins given → IsPruned g i mid left given steps → is_sub_box left mid ≡ true → NarrowTold g i box left before joins steps
closed_told g i box mid left before joins given steps n p fewer =
    let s = closed_steps g i box mid left before n.ms given steps (bare_steps g i box mid before n.ms given n.stepped) p fewer in
    record {
      ms = n.ms;
      stepped = record { reached = s.reached; stepped = s.stepped; beaten = n.stepped.beaten; one = s.one; worse = s.worse };
      stands = n.stands;
    }

-- ---- a bound where a node's own tree begins
module _ (g : Game) (i : ℕ) (box left : Box) (w : Worse) (m : IsSpan g i w) (low high : ℤ) (l : low ≡ w.lo) (h : high ≡ w.hi) (old new : List Step) (o : old ≡ []) where
  as_span : (r : Option Bounded) → BoundAnswers w.sense w.variable low high box left old new r → BoundAnswers w.sense w.variable w.lo w.hi box left [] new r
  as_span r a =
      subst (λ (ss : List Step). BoundAnswers w.sense w.variable w.lo w.hi box left ss new r) o
      (subst (λ n. BoundAnswers w.sense w.variable w.lo n box left old new r) h (subst (λ n. BoundAnswers w.sense w.variable n high box left old new r) l a))

  -- nothing is to be given up
  pub first_none : (joins : Joins) → StandsAt joins i [] → (r : Option Bounded) → r ≡ None → BoundAnswers w.sense w.variable low high box left old new r → FirstNarrowed g i box left joins new
  first_none joins stands r e a =
      let u : IsUnbounded w.variable w.lo w.hi box left [] new = subst (BoundAnswers w.sense w.variable w.lo w.hi box left [] new) e (as_span r a) in
      record {
        ms = [];
        stepped = record {
          reached = u.reached ∙ ap (λ ss. after_steps ss box) (sym u.appended);
          stepped = subst (λ (ss : List Step). StepsMade g (drop i g.scopes) i (demands g i) box [] ss) (sym u.appended) (record { legal = refl; marked = refl; fits = refl });
          one = sizes_none 1;
          worse = no_worse_yet (tracked_at g i) left;
        };
        stands = stands;
      }

  pub first_some : (numbers : (x : ℕ) → list_all is_number (values_left box x) ≡ true) (r : Option Bounded) (b : Bounded) (told : Joins) (mark : ℤ) → r ≡ Some b → BoundAnswers w.sense w.variable low high box left old new r → (is_number b.best ≡ true → mark ≡ b.best) → StandsAt told i (seen_bound mark ∷ []) →
      FirstNarrowed g i box left told new
  first_some numbers r b told mark e a same added =
      let u : IsBounded w.sense w.variable w.lo w.hi box left [] new b = subst (BoundAnswers w.sense w.variable w.lo w.hi box left [] new) e (as_span r a) in
      let bound = Bound w.variable w.lo w.hi in
      let k = mark_is g i box numbers w m.tracked left new b u in
      let one : new ≡ bound ∷ [] = u.appended in
      record {
        ms = b.best ∷ [];
        stepped = record {
          reached = u.reached ∙ ap (λ ss. after_steps ss box) (sym one);
          stepped = subst (λ (ss : List Step). StepsMade g (drop i g.scopes) i (demands g i) box (b.best ∷ []) ss) (sym one) (record {
            legal = u.placed g (drop i g.scopes) i (demands g i) m.tracked;
            marked = sym (ap (λ (t : Option Tracked). step_marks t (bound ∷ []) box) m.tracked ∙ u.marked);
            fits = and_from _ _ u.fits refl;
          });
          one = mark_small b.best k.0;
          worse = no_worse_yet (tracked_at g i) left;
        };
        stands = subst (λ n. StandsAt told i (seen_bound n ∷ [])) (same k.0) added;
      }

-- so after closing
pub first_closed : (g : Game) (i : ℕ) (box mid left : Box) (joins : Joins) (given steps : List Step) → FirstNarrowed g i box mid joins given → IsPruned g i mid left given steps → is_sub_box left mid ≡ true → FirstNarrowed g i box left joins steps
first_closed g i box mid left joins given steps n p fewer = record { ms = n.ms; stepped = closed_steps g i box mid left [] n.ms given steps n.stepped p fewer; stands = n.stands }

-- ---- the part that follows may begin
pub ready_after : (g : Game) (i : ℕ) (box left_box : Box) (first joins : Joins) (left : ℕ) (before : List Seen) (steps : List Step) → (n : NarrowTold g i box left_box before joins steps) → IsReady g i first (2 + 2 * left) before → IsReady g i joins (suc (2 * left)) (before ++ seen_bounds n.ms)
ready_after g i box left_box first joins left before steps n r = record {
  stands = n.stands;
  unsettled = settled_here g i (before ++ seen_bounds n.ms) ∙ (settled-append later list before (seen_bounds n.ms) ∙ or_from _ _ (sym (settled_here g i before) ∙ r.unsettled) none);
  size = r.size + 1;
  sizes = sizes_both r.size 1 before (seen_bounds n.ms) r.sizes n.stepped.one;
  room = omega (arith, r.room);
}
  where
    later : List Scope
    later = drop i g.scopes

    list : List Condition
    list = list_after g later (demands g i)

    none : is_settled later list (seen_bounds n.ms) ≡ false
    none = ap (is_settled later list) (sym (append-nil (seen_bounds n.ms))) ∙ some_marks (settles later list) n.ms []

-- ---- the ends of what is left
from_there : (v : ℤ) (vs : Values) (x : ℤ) → has_value (values_from v vs) x ≡ true → v ≤ℤ x
from_there v [] x h = cc
from_there v (u ∷ vs) x h = by (int_le v u) refl (int_eq x u) refl h (from_there v vs x)
  where
    by : (b : Bool) → int_le v u ≡ b → (c : Bool) → int_eq x u ≡ c → has_value (cond b (u ∷ values_from v vs) (values_from v vs)) x ≡ true → (has_value (values_from v vs) x ≡ true → v ≤ℤ x) → v ≤ℤ x
    by true p true q h rest = let e = (Decides-int_eq x u).0 q in omega (arith, ints, p, e)
    by true p false q h rest = rest (sym (ap (λ b. b || has_value (values_from v vs) x) q) ∙ h)
    by false p c q h rest = rest h

pub first_least : (vs : Values) (v x : ℤ) → IsFirst vs v → has_value vs x ≡ true → v ≤ℤ x
first_least vs v x f h = from_there v vs x (ap (λ us. has_value us x) f.all ∙ h)

most_from : (n : ℤ) (vs : Values) → (n ≤ℤ greatest_from n vs) × ((x : ℤ) → has_value vs x ≡ true → x ≤ℤ greatest_from n vs)
most_from n [] = (omega (arith, ints), λ x h. cc)
most_from n (u ∷ vs) = by (int_lt n u) refl (most_from u vs) (most_from n vs)
  where
    by : (b : Bool) → int_lt n u ≡ b → (u ≤ℤ greatest_from u vs) × ((x : ℤ) → has_value vs x ≡ true → x ≤ℤ greatest_from u vs) → (n ≤ℤ greatest_from n vs) × ((x : ℤ) → has_value vs x ≡ true → x ≤ℤ greatest_from n vs) →
        (n ≤ℤ greatest_from (cond b u n) vs) × ((x : ℤ) → has_value (u ∷ vs) x ≡ true → x ≤ℤ greatest_from (cond b u n) vs)
    by true p f g = (let m = f.0 in omega (arith, ints, p, m), λ x h. either x (int_eq x u) refl (greatest_from u vs) h f.0 (f.1 x))
      where
        either : (x : ℤ) (c : Bool) → int_eq x u ≡ c → (top : ℤ) → (c || has_value vs x) ≡ true → u ≤ℤ top → (has_value vs x ≡ true → x ≤ℤ top) → x ≤ℤ top
        either x true q top h m rest = let e = (Decides-int_eq x u).0 q in omega (arith, ints, e, m)
        either x false q top h m rest = rest h
    by false p f g = (g.0, λ x h. either x (int_eq x u) refl (greatest_from n vs) h g.0 (g.1 x))
      where
        either : (x : ℤ) (c : Bool) → int_eq x u ≡ c → (top : ℤ) → (c || has_value vs x) ≡ true → n ≤ℤ top → (has_value vs x ≡ true → x ≤ℤ top) → x ≤ℤ top
        either x true q top h m rest = let e = (Decides-int_eq x u).0 q in omega (arith, ints, e, m, p)
        either x false q top h m rest = rest h

greatest_most : (vs : Values) (x : ℤ) → has_value vs x ≡ true → x ≤ℤ greatest_value vs
greatest_most [] x h = cc
greatest_most (w ∷ vs) x h = by (int_eq x w) refl h (most_from w vs)
  where
    by : (c : Bool) → int_eq x w ≡ c → (c || has_value vs x) ≡ true → (w ≤ℤ greatest_from w vs) × ((y : ℤ) → has_value vs y ≡ true → y ≤ℤ greatest_from w vs) → x ≤ℤ greatest_from w vs
    by true q h m = let e = (Decides-int_eq x w).0 q in let f = m.0 in omega (arith, ints, e, f)
    by false q h m = m.1 x h

from_itself : (vs : Values) (x : ℤ) → has_value vs x ≡ true → has_value (values_from x vs) x ≡ true
from_itself [] x h = cc
from_itself (u ∷ vs) x h = by (int_le x u) refl (int_eq x u) refl h (from_itself vs x)
  where
    by : (b : Bool) → int_le x u ≡ b → (c : Bool) → int_eq x u ≡ c → (c || has_value vs x) ≡ true → (has_value vs x ≡ true → has_value (values_from x vs) x ≡ true) → has_value (cond b (u ∷ values_from x vs) (values_from x vs)) x ≡ true
    by true p true q h rest = ap (λ b. b || has_value (values_from x vs) x) q
    by true p false q h rest = ap (λ b. b || has_value (values_from x vs) x) q ∙ rest h
    by false p true q h rest = let e = (Decides-int_eq x u).0 q in absurd (omega (arith, ints, p, e))
    by false p false q h rest = rest h

pub last_most : (vs : Values) (u x : ℤ) → IsLast vs u → has_value vs x ≡ true → x ≤ℤ u
last_most vs u x l h = subst (λ n. x ≤ℤ n) (l.last x h) (greatest_most (values_from x vs) x (from_itself vs x h))

above_max : (x y v : ℤ) → int_le (int_max x y) v ≡ true → int_le x v ≡ true
above_max x y v h = by (int_lt y x) refl h
  where
    by : (b : Bool) → int_lt y x ≡ b → int_le (cond b x y) v ≡ true → int_le x v ≡ true
    by true p h = h
    by false p h = grind (arith, ints)

below_min : (x y v : ℤ) → int_le v (int_min x y) ≡ true → int_le v x ≡ true
below_min x y v h = by (int_lt y x) refl h
  where
    by : (b : Bool) → int_lt y x ≡ b → int_le v (cond b y x) ≡ true → int_le v x ≡ true
    by true p h = grind (arith, ints)
    by false p h = h

at_max : (x y v : ℤ) → y ≤ℤ v → int_le x v ≡ true → int_le (int_max x y) v ≡ true
at_max x y v l h = by (int_lt y x)
  where
    by : (b : Bool) → int_le (cond b x y) v ≡ true
    by true = h
    by false = grind (arith, ints)

at_min : (x y v : ℤ) → v ≤ℤ y → int_le v x ≡ true → int_le v (int_min x y) ≡ true
at_min x y v l h = by (int_lt y x)
  where
    by : (b : Bool) → int_le v (cond b y x) ≡ true
    by true = grind (arith, ints)
    by false = h

one_number : (b : Bool) (x y : ℤ) → is_number x ≡ true → is_number y ≡ true → is_number (cond b x y) ≡ true
one_number true x y h k = h
one_number false x y h k = k

-- the values that are ruled out, between the ends of what is left
pub worse_here : (g : Game) (i : ℕ) (joins : Joins) (box : Box) (w r : Worse) (first last : ℤ) → IsWorse g i joins w → IsFirst (values_left box w.variable.0) first → IsLast (values_left box w.variable.0) last → is_number first ≡ true → is_number last ≡ true →
    r.sense ≡ w.sense → r.variable ≡ w.variable → r.lo ≡ int_max w.lo first → r.hi ≡ int_min w.hi last → IsWorseHere g i joins box r
worse_here g i joins box w r first last m f l nf nl s x lo hi = record {
  tracked = m.tracked ∙ (ap (λ (z : Sense). Some (tracked_as z w.variable)) (sym s) ∙ ap (λ (y : VarId). Some (tracked_as r.sense y)) (sym x));
  exists = subst (λ (y : VarId). y.0 < length g.variables) (sym x) m.exists;
  lo = ap is_number lo ∙ one_number (int_lt first w.lo) w.lo first m.lo nf;
  hi = ap is_number hi ∙ one_number (int_lt last w.hi) last w.hi nl m.hi;
  goes = λ v before n inside. let q = and_parts (int_le r.lo v) (int_le v r.hi) inside in
      m.goes v before n (and_from (int_le w.lo v) (int_le v w.hi) (above_max w.lo first v (sym (ap (λ k. int_le k v) lo) ∙ q.0)) (below_min w.hi last v (sym (ap (int_le v) hi) ∙ q.1)));
  stays = λ v h n outside.
      let here = subst (λ (y : VarId). has_value (values_left box y.0) v ≡ true) x h in
      subst (λ (z : Sense). IsNoWorse joins i z v) (sym s) (m.stays v n (outside_too v (first_least (values_left box w.variable.0) first v f here) (last_most (values_left box w.variable.0) last v l here) outside));
}
  where
    outside_too : (v : ℤ) → first ≤ℤ v → v ≤ℤ last → is_within r.lo r.hi v ≡ false → is_within w.lo w.hi v ≡ false
    outside_too v a b out = by (is_within w.lo w.hi v) refl
      where
        by : (c : Bool) → is_within w.lo w.hi v ≡ c → is_within w.lo w.hi v ≡ false
        by false e = e
        by true e =
            let q = and_parts (int_le w.lo v) (int_le v w.hi) e in
            let inside = and_from (int_le r.lo v) (int_le v r.hi) (ap (λ k. int_le k v) lo ∙ at_max w.lo first v a q.0) (ap (int_le v) hi ∙ at_min w.hi last v b q.1) in
            let f : true ≡ false = sym inside ∙ out in absurd cc

pub span_between : (g : Game) (i : ℕ) (w r : Worse) (first last : ℤ) → IsSpan g i w → is_number first ≡ true → is_number last ≡ true → r.sense ≡ w.sense → r.variable ≡ w.variable → r.lo ≡ int_max w.lo first → r.hi ≡ int_min w.hi last → IsSpan g i r
span_between g i w r first last m nf nl s x lo hi = record {
  tracked = m.tracked ∙ (ap (λ (z : Sense). Some (tracked_as z w.variable)) (sym s) ∙ ap (λ (y : VarId). Some (tracked_as r.sense y)) (sym x));
  exists = subst (λ (y : VarId). y.0 < length g.variables) (sym x) m.exists;
  lo = ap is_number lo ∙ one_number (int_lt first w.lo) w.lo first m.lo nf;
  hi = ap is_number hi ∙ one_number (int_lt last w.hi) last w.hi nl m.hi;
}

-- ---- what bounding answers
module _ (g : Game) (i : ℕ) (box left : Box) (joins : Joins) (before : List Seen) (numbers : (x : ℕ) → list_all is_number (values_left box x) ≡ true) (stands : StandsAt joins i before) (w : Worse) (m : IsWorseHere g i joins box w) (low high : ℤ) (l : low ≡ w.lo) (h : high ≡ w.hi) (old new : List Step) (o : old ≡ []) where
  at_ends : (r : Option Bounded) → BoundAnswers w.sense w.variable low high box left old new r → BoundAnswers w.sense w.variable w.lo w.hi box left [] new r
  at_ends r a =
      subst (λ (ss : List Step). BoundAnswers w.sense w.variable w.lo w.hi box left ss new r) o
      (subst (λ n. BoundAnswers w.sense w.variable w.lo n box left old new r) h (subst (λ n. BoundAnswers w.sense w.variable n high box left old new r) l a))

  pub bound_none : (r : Option Bounded) → r ≡ None → BoundAnswers w.sense w.variable low high box left old new r → NarrowTold g i box left before joins new
  bound_none r e a = none_lost g i box joins before numbers stands w m left new (subst (BoundAnswers w.sense w.variable w.lo w.hi box left [] new) e (at_ends r a))

  pub bound_some : (r : Option Bounded) (b : Bounded) (told : Joins) (mark : ℤ) → r ≡ Some b → BoundAnswers w.sense w.variable low high box left old new r → w.variable.0 < length box → (is_number b.best ≡ true → mark ≡ b.best) → StandsAt told i (before ++ seen_bound mark ∷ []) →
      NarrowTold g i box left before told new
  bound_some r b told mark e a inside same added =
      let u = subst (BoundAnswers w.sense w.variable w.lo w.hi box left [] new) e (at_ends r a) in
      some_lost g i box joins before numbers stands w m left new b told mark inside u (same (mark_is g i box numbers w m.tracked left new b u).0) added

pub on_ok : {P : Type 0} (r : Result Closed AllocError) → P → OnOk r P
on_ok (Ok a) p = p
on_ok (Err e) p = tt
