-- Steps within the own tree of a scope of the player, and the best value left.
use Rattle.std.proofs.Common.{◌≡◌, ◌⊎◌, inl, inr, suc, ◌<◌, Bool, true, false, not, ◌&&◌, cond, List, [], ◌∷◌, drop, refl, sym, ap, ◌∙◌, subst, arith, ℤ, Some, Option, None}
use Rattle.std.specs.Prelude.{slice_get, int_lt}
use Rattle.std.proofs.lemmas.Bool.{not_from_false}
use Rattle.qc_model.specs.declared.problem.Sense.{Sense}
use Rattle.qc_model.specs.declared.problem.Sense.TheVariants.{Min, Max}
use Rattle.qc_model.specs.declared.problem.VarId.{VarId}
use Rattle.qc_model.specs.declared.problem.Target.{Target}
use Rattle.qc_model.specs.declared.problem.Target.TheVariants.{Var, Aggregate as Agg}
use Rattle.qc_model.specs.declared.problem.Condition.{Condition}
use Rattle.qc_model.specs.declared.problem.Scope.{Scope}
use Rattle.qc_model.specs.Block.{block_stop, no_condition_to}
use Rattle.qc_model.specs.Demands.{demands}
use Rattle.qc_model.specs.Domains.{InBox, Box, Values, declared_box, values_left, values_within, values_outside, is_within, least_from, greatest_from, has_empty, box_without}
use Rattle.qc_model.specs.ExistsVerdict.{best_number, best_number_from}
use Rattle.qc_model.specs.Game.{before}
use Rattle.qc_model.specs.Lists.{Among}
use Rattle.qc_model.specs.Optimal.{is_better}
use Rattle.qc_model.specs.Plan.{Plan}
use Rattle.qc_model.specs.Sees.{IsVisible, AllVisible}
use Rattle.qc_model.specs.Valid.{IsValid}
use Rattle.qc_model.specs.Value.{value}
use Rattle.qc_model.specs.Verdict.{Seen, seen_bound}
use Rattle.qc_model.proofs.Moves.{among_filter, of_filter}
use Rattle.model_arguments.proofs.Boxes.{sub_without}
use Rattle.model_laws.specs.Positions.{existential}
use Rattle.model_laws.specs.Verdicts.{HeldBy}
use Rattle.model_laws.proofs.Better.{better_false}
use Rattle.model_laws.proofs.Folds.{not_better_self}
use Rattle.model_laws.proofs.Choosing.{best_weaker}
use Rattle.model_laws.proofs.Validity.{valid_lists}
use Rattle.proof_meaning.proofs.Blocks.{blocked_less}
use Rattle.proof_meaning.proofs.FreeFront.{before_wider}
use Rattle.proof_meaning.proofs.Owners.{bound_free}
use Rattle.proof_tree.specs.Fair.{free_stop}
use Rattle.proof_tree.specs.Place.{Tracked, owner_of, tracked_target, tracked_first, tracked_variable, list_after, next_scopes}
use Rattle.proof_tree.specs.Steps.{best_value}
use Rattle.dense_closing.proofs.Within.{sub_self}
use Rattle.dense_meaning.specs.Throughout.{PlaysLie, IsOptimalWithin}
use Rattle.dense_meaning.proofs.PlansLie.{lie_front}
use Rattle.dense_meaning.proofs.Targets.{value_left, lie_kept}
use Rattle.dense_tree.specs.Place.{Setting, Place, with_box, closed_box, is_players, is_opponents}
use Rattle.dense_tree.specs.Steps.{tracked}
use Rattle.dense_laws.specs.Stands.{StrategiesStay, MovesStay, Stands, StandsPart}
use Rattle.dense_laws.specs.Says.{IsAt, SomeHolds, SomeBest, ChoicesSay}
use Rattle.dense_laws.proofs.Bounds.{free_in_block, weaker, bounded_moves, bounded_strategies}
use Rattle.dense_laws.proofs.Choices.{smaller_says}
use Rattle.dense_laws.proofs.Scopes.{scope_at, list_next}
use Rattle.dense_laws.proofs.Small.{clash, drop_set, sub_in_box}
use Rattle.dense_laws.proofs.Standing.{stands_in, closed_lies, players_is, no_opponents}

-- the best of some values is no worse than each
least_number : (n : ℤ) (vs : Values) → least_from n vs ≡ best_number_from Min n vs
least_number n [] = refl
least_number n (v ∷ vs) = least_number (cond (int_lt v n) v n) vs

greatest_number : (n : ℤ) (vs : Values) → greatest_from n vs ≡ best_number_from Max n vs
greatest_number n [] = refl
greatest_number n (v ∷ vs) = greatest_number (cond (int_lt n v) v n) vs

best_is : (s : Sense) (vs : Values) → best_value s vs ≡ best_number s vs
best_is Min [] = refl
best_is Max [] = refl
best_is Min (v ∷ vs) = least_number v vs
best_is Max (v ∷ vs) = greatest_number v vs

not_itself : (s : Sense) (z : ℤ) → is_better s z z ≡ false
not_itself s z = better_false s z z (not_better_self s z)

pub none_above : (s : Sense) (z : ℤ) (vs : Values) → Among z vs → is_better s z (best_value s vs) ≡ false
none_above s z vs m = ap (is_better s z) (best_is s vs) ∙ best_weaker s z z vs m (not_itself s z)

-- the scope's list, and that after it, see what they name
pub list_visible : (s : Setting) (p : Place) → IsValid s.game → Stands s p → AllVisible s.game p.later p.number p.list
list_visible s p valid st =
    subst (λ d. AllVisible s.game p.later p.number d) (sym st.list) (subst (λ ls. AllVisible s.game ls p.number (demands s.game p.number)) (sym st.later) (valid_lists s.game p.number valid st.number))

module _ (s : Setting) (valid : IsValid s.game) (p : Place) (x : Option Condition) (later : List Scope) (e : p.later ≡ existential x ∷ later) (st : StandsPart s p) where
  here_is : drop p.number s.game.scopes ≡ existential x ∷ later
  here_is = sym st.stands.later ∙ e

  after_visible : AllVisible s.game later (suc p.number) (list_after s.game p.later p.list)
  after_visible =
      let q = scope_at s.game.scopes p.number (existential x) later here_is in
      let l = q.2 in
      subst (λ d. AllVisible s.game later (suc p.number) d) (sym same)
      (subst (λ ls. AllVisible s.game ls (suc p.number) (demands s.game (suc p.number))) q.1 (valid_lists s.game (suc p.number) valid (omega arith)))
    where
      same : list_after s.game p.later p.list ≡ demands s.game (suc p.number)
      same =
          ap (λ ls. list_after s.game ls p.list) st.stands.later ∙ ap (list_after s.game (drop p.number s.game.scopes)) st.stands.list ∙ list_next s.game p.number (scope_at s.game.scopes p.number (existential x) later here_is).2

  -- closing
  pub closing_says : (small : Box) → closed_box s p ≡ Some small → ((w : List ℤ) → InBox w small → InBox w p.box) → (seen : List Seen) (bests : List ℤ) → ChoicesSay s (with_box small p) seen bests → ChoicesSay s p seen bests
  closing_says small found sub seen bests h = smaller_says s p small seen bests sub (λ a at r o. closed_lies s valid p x later e small st found a at r o) h

  -- the variable that is demanded first after the scope
  pub record TrackedIs (u : Tracked) (le : List Condition) : Type 0 where
    pub first : Condition
    pub rest : List Condition
    pub is_list : le ≡ first ∷ rest
    pub variable : VarId
    pub target : first.target ≡ Var variable
    pub same : u ≡ record { sense = first.sense; variable = variable.0 }

  tracked_is : (u : Tracked) (le : List Condition) → tracked_first s.game later (suc p.number) le ≡ Some u → TrackedIs u le
  tracked_is u [] q = cc
  tracked_is u (c ∷ d) q = by c.target refl q
    where
      by : (t : Target) → c.target ≡ t → tracked_target s.game later (suc p.number) c.sense t ≡ Some u → TrackedIs u (c ∷ d)
      by (Agg n) k q = cc
      by (Var z) k q = at (no_condition_to (owner_of (slice_get s.game.variables z.0)) later (suc p.number)) q
        where
          at : (b : Bool) → cond b (Some (record { sense = c.sense; variable = z.0 })) None ≡ Some u → TrackedIs u (c ∷ d)
          at false q = cc
          at true q = record { first = c; rest = d; is_list = refl; variable = z; target = k; same = (let r : record { sense = c.sense; variable = z.0 } ≡ u = cc in sym r) }

  module _ (u : Tracked) (q : tracked s p ≡ Some u) where
    first_is : tracked_first s.game later (suc p.number) (list_after s.game p.later p.list) ≡ Some u
    first_is = subst (λ ls. tracked_variable s.game ls p.number (list_after s.game p.later p.list) ≡ Some u) e q

    pub it : TrackedIs u (list_after s.game p.later p.list)
    it = tracked_is u (list_after s.game p.later p.list) first_is

    visible_after : IsVisible s.game later (suc p.number) (Var it.variable)
    visible_after =
        let v = subst (AllVisible s.game later (suc p.number)) it.is_list after_visible in
        subst (IsVisible s.game later (suc p.number)) it.target v.0

    visible_here : IsVisible s.game p.later p.number (Var it.variable)
    visible_here = subst (λ ls. IsVisible s.game ls p.number (Var it.variable)) (sym e) visible_after

    held_by : (a : List ℤ) (r : Plan) (m : ℤ) → is_better u.sense (value s.game r (Var it.variable) a) m ≡ false → HeldBy s.game (list_after s.game p.later p.list) a r m
    held_by a r m h =
        subst (λ d. HeldBy s.game d a r m) (sym it.is_list)
        (subst (λ t. is_better it.first.sense (value s.game r t a) m ≡ false) (sym it.target)
        (subst (λ (z : Tracked). is_better z.sense (value s.game r (Var it.variable) a) m ≡ false) it.same h))

    -- a bound
    pub bound_says : (low high : ℤ) (seen : List Seen) (bests : List ℤ) → ChoicesSay s (record p { box = box_without p.box it.variable.0 low high; bounded = true }) seen bests →
        ChoicesSay s p (seen_bound (best_value u.sense (values_within low high (values_left p.box it.variable.0))) ∷ seen) bests
    bound_says low high seen bests h = record {
      held = λ a at r o. held a at r o (is_within low high (value s.game r (Var it.variable) a)) refl;
      reached = λ l a only. (tt, h.reached l a (λ b at. only b (record { count = at.count; lies = sub b at.lies })));
      loose = h.loose;
    }
      where
        small : Box
        small = box_without p.box it.variable.0 low high

        sub : (w : List ℤ) → InBox w small → InBox w p.box
        sub w j = sub_in_box w small p.box (sub_without p.box p.box it.variable.0 low high (sub_self p.box (declared_box s.game) st.stands.box)) j

        held : (a : List ℤ) → IsAt s p a → (r : Plan) → IsOptimalWithin s.game p.later p.number p.box a r → (b : Bool) → is_within low high (value s.game r (Var it.variable) a) ≡ b →
            SomeHolds s.game (list_after s.game p.later p.list) a r (seen_bound (best_value u.sense (values_within low high (values_left p.box it.variable.0))) ∷ seen) ⊎ SomeBest s.game p.list a r bests
        held a at r o true k =
            let m = value_left s.game p.later p.number it.variable p.box a r at.position.count visible_here o.optimal o.lies in
            inl (inl (held_by a r (best_value u.sense (values_within low high (values_left p.box it.variable.0)))
            (none_above u.sense (value s.game r (Var it.variable) a) (values_within low high (values_left p.box it.variable.0)) (among_filter (is_within low high) (value s.game r (Var it.variable) a) (values_left p.box it.variable.0) m k))))
        held a at r o false k =
            let m = value_left s.game p.later p.number it.variable p.box a r at.position.count visible_here o.optimal o.lies in
            let lies : PlaysLie small a r = lie_kept s.game p.later p.number it.variable p.box (values_outside low high (values_left p.box it.variable.0)) a r at.position.count visible_here o.optimal o.lies
            (among_filter (λ v. not (is_within low high v)) (value s.game r (Var it.variable) a) (values_left p.box it.variable.0) m (not_from_false (is_within low high (value s.game r (Var it.variable) a)) k)) in
            elim (h.held a (record { position = record { count = at.position.count; lies = lie_front small r a lies }; blocked = blocked_less s.game p.number a p.box small p.horizon sub at.blocked }) r (record { optimal = o.optimal; lies = lies })) [
              | inl t ↦ inl (inr t)
              | inr t ↦ inr t
            ]

    pub bound_part : (low high : ℤ) → StandsPart s (record p { box = box_without p.box it.variable.0 low high; bounded = true })
    bound_part low high = record {
      stands = record {
        number = inner.number;
        later = inner.later;
        list = inner.list;
        box = inner.box;
        behind = inner.behind;
        strict = inner.strict;
        blocked = inner.blocked;
      };
      full = λ f. clash (is_opponents p) f (no_opponents p x later e);
      moves = subst (λ ls. MovesStay s.game (next_scopes ls) (suc p.number) small) (sym e)
          (bounded_moves s.game p.box it.variable outside some (free_stop later (suc p.number)) before_stop later (suc p.number) (inl (visible_after, refl))
          (subst (λ ls. MovesStay s.game (next_scopes ls) (suc p.number) p.box) e st.moves));
      strategies = subst (λ b. StrategiesStay s.game b (next_scopes p.later) (suc p.number) small) (sym (players_is p x later e))
          (subst (λ ls. StrategiesStay s.game true (next_scopes ls) (suc p.number) small) (sym e)
          (bounded_strategies s.game p.box it.variable outside some (free_stop later (suc p.number)) before_stop later (suc p.number) (inl (visible_after, refl))
          (subst (λ ls. StrategiesStay s.game true (next_scopes ls) (suc p.number) p.box) e
          (weaker s.game (p.bounded && is_players p) (next_scopes p.later) (suc p.number) p.box st.strategies))));
    }
      where
        small : Box
        small = box_without p.box it.variable.0 low high

        outside : Values
        outside = values_outside low high (values_left p.box it.variable.0)

        some : (z : ℤ) → Among z (values_outside low high (values_left p.box it.variable.0)) → Among z (values_left p.box it.variable.0)
        some z m = (of_filter (λ v. not (is_within low high v)) z (values_left p.box it.variable.0) m).0

        before_stop : it.variable.0 < before s.game (free_stop later (suc p.number))
        before_stop =
            let b = bound_free s.game valid (existential x) later p.number (list_after s.game p.later p.list) u after_visible first_is in
            subst (λ (z : Tracked). z.variable < before s.game (free_stop later (suc p.number))) it.same b.1

        below_block : it.variable.0 < before s.game (block_stop p.later p.number)
        below_block =
            let w = before_wider s.game (free_stop later (suc p.number)) (block_stop later (suc p.number)) (free_in_block later (suc p.number)) in
            let b = before_stop in
            subst (λ ls. it.variable.0 < before s.game (block_stop ls p.number)) (sym e) (omega arith)

        inner : Stands s (with_box small p)
        inner = stands_in s p small st.stands (sub_without p.box p.box it.variable.0 low high (sub_self p.box (declared_box s.game) st.stands.box))
            (subst (λ ds. has_empty ds ≡ false) (sym (drop_set (before s.game (block_stop p.later p.number)) it.variable.0 outside p.box below_block)) st.stands.behind)

-- the best value left
pub best_says : (s : Setting) (p : Place) (c : Condition) (d : List Condition) (y : VarId) → IsValid s.game → Stands s p → p.list ≡ c ∷ d → c.target ≡ Var y → ChoicesSay s p [] (best_value c.sense (values_left p.box y.0) ∷ [])
best_says s p c d y valid st e t = record {
  held = λ a at r o. inr (subst (λ q. SomeBest s.game q a r (best_value c.sense (values_left p.box y.0) ∷ [])) (sym e)
      (inl (subst (λ z. is_better c.sense (value s.game r z a) (best_value c.sense (values_left p.box y.0)) ≡ false) (sym t)
      (none_above c.sense (value s.game r (Var y) a) (values_left p.box y.0) (value_left s.game p.later p.number y p.box a r at.position.count sees o.optimal o.lies)))));
  reached = λ l a only. tt;
  loose = λ l. refl;
}
  where
    sees : IsVisible s.game p.later p.number (Var y)
    sees = subst (IsVisible s.game p.later p.number) t (subst (AllVisible s.game p.later p.number) e (list_visible s p valid st)).0
