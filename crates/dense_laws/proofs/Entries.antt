-- Nodes whose vector is read off the position: the goal, and an opponent who is stuck.
use Rattle.std.proofs.Common.{◌≡◌, ◌⊎◌, inl, inr, ℕ, suc, ◌<◌, Bool, true, false, cond, List, [], ◌∷◌, length, refl, sym, ap, ◌∙◌, subst, ℤ, Option}
use Rattle.qc_model.specs.declared.problem.Kind.{Kind}
use Rattle.qc_model.specs.declared.problem.Kind.TheVariants.{Exists, Forall}
use Rattle.qc_model.specs.declared.problem.VarId.{VarId}
use Rattle.qc_model.specs.declared.problem.Target.{Target}
use Rattle.qc_model.specs.declared.problem.Target.TheVariants.{Var, Aggregate as Agg}
use Rattle.qc_model.specs.declared.problem.Condition.{Condition}
use Rattle.qc_model.specs.declared.problem.Scope.{Scope}
use Rattle.qc_model.specs.Bottlenecks.{bottleneck_last}
use Rattle.qc_model.specs.Demands.{vector, is_better_vector}
use Rattle.qc_model.specs.Domains.{InBox, declared_box}
use Rattle.qc_model.specs.ForallVerdict.{entry_value, entry_values, numbers_for, goal_verdict}
use Rattle.qc_model.specs.Game.{before, restriction, allows}
use Rattle.qc_model.specs.Optimal.{is_better, Optimal}
use Rattle.qc_model.specs.Plan.{Plan}
use Rattle.qc_model.specs.Sees.{IsVisible, AllVisible}
use Rattle.qc_model.specs.Valid.{IsValid}
use Rattle.qc_model.specs.Value.{value}
use Rattle.qc_model.specs.Verdict.{lost, exact, unknown, first_value}
use Rattle.model_laws.specs.Positions.{universal}
use Rattle.model_laws.specs.Verdicts.{MeansAt}
use Rattle.model_laws.proofs.Ends.{goal_mean, stuck_forall}
use Rattle.model_laws.proofs.Validity.{valid_bottlenecks}
use Rattle.proof_meaning.proofs.Blocks.{none_pass}
use Rattle.proof_meaning.proofs.Passing.{goal_move}
use Rattle.proof_meaning.proofs.Premises.{sound_of}
use Rattle.proof_tree.specs.InPlace.{is_horizon}
use Rattle.proof_tree.specs.Place.{position}
use Rattle.dense_meaning.specs.Throughout.{IsPositionIn, IsOptimalWithin, Says}
use Rattle.dense_meaning.proofs.AfterScopes.{first_held}
use Rattle.dense_meaning.proofs.EndsOfPlay.{all_says}
use Rattle.dense_meaning.proofs.WholePlays.{append_none}
use Rattle.dense_tree.specs.Place.{Setting, Place}
use Rattle.dense_tree.specs.Tuples.{all_hold, some_fails}
use Rattle.dense_tree.specs.Verdicts.{upper_bound, loosened, goal_comes_to, stuck_comes_to}
use Rattle.dense_laws.specs.Stands.{MovesStay, StandsNode}
use Rattle.dense_laws.specs.Says.{IsAt, NodeTold}
use Rattle.dense_laws.proofs.Ends.{goal_fails, horizon_lost}
use Rattle.dense_laws.proofs.FreeGames.{entailed_allows}
use Rattle.dense_laws.proofs.Going.{list_visible}
use Rattle.dense_laws.proofs.Nodes.{upper_says, loosened_inexact, position_is}
use Rattle.dense_laws.proofs.Scopes.{none_after}
use Rattle.dense_laws.proofs.Small.{sub_in_box}

module _ (s : Setting) (valid : IsValid s.game) (p : Place) (n : StandsNode s p) where
  -- the vector of the position that the box shows, where nothing later is demanded
  module _ (ns : ℕ → List ℤ) (early : (y : VarId) → IsVisible s.game p.later p.number (Var y) → y.0 < before s.game p.number) where
    sees : AllVisible s.game p.later p.number p.list
    sees = list_visible s p valid n.stands

    first_is : (a : List ℤ) (d : Condition) (r : List Condition) → p.list ≡ d ∷ r → (q : Plan) → IsOptimalWithin s.game p.later p.number p.box a q → Says (exact (entry_values s.game p.list a ns)) s.game p.later p.number p.list p.box a →
        ((y : VarId) × (d.target ≡ Var y) × (y.0 < before s.game p.number)) ⊎ (is_better d.sense (value s.game q d.target a) (first_value (entry_values s.game p.list (position s.game p.number p.box) ns)) ≡ false)
    first_is a d r k q o h = at d.target refl (subst (AllVisible s.game p.later p.number) k sees).0
      where
        held : is_better d.sense (value s.game q d.target a) (first_value (entry_values s.game p.list a ns)) ≡ false
        held =
            first_held s.game d r a (entry_values s.game p.list a ns) h.some.0 q (subst (λ us. vector s.game us a h.some.0 ≡ entry_values s.game p.list a ns) k h.some.2)
            (subst (λ us. is_better_vector us (vector s.game us a q) (entry_values s.game p.list a ns) ≡ false) k (h.best q o))

        at : (t : Target) → d.target ≡ t → IsVisible s.game p.later p.number d.target →
            ((y : VarId) × (d.target ≡ Var y) × (y.0 < before s.game p.number)) ⊎ (is_better d.sense (value s.game q d.target a) (first_value (entry_values s.game p.list (position s.game p.number p.box) ns)) ≡ false)
        at (Var y) w v = inl (y, w, early y (subst (IsVisible s.game p.later p.number) w v))
        at (Agg m) w v = inr (subst (λ z. is_better d.sense (value s.game q d.target a) z ≡ false) first_same held)
          where
            first_same : first_value (entry_values s.game p.list a ns) ≡ first_value (entry_values s.game p.list (position s.game p.number p.box) ns)
            first_same =
                ap (λ us. first_value (entry_values s.game us a ns)) k
                ∙ (ap (λ z. entry_value s.game a ns z) w ∙ ap (λ z. entry_value s.game (position s.game p.number p.box) ns z) (sym w))
                ∙ ap (λ us. first_value (entry_values s.game us (position s.game p.number p.box) ns)) (sym k)

    pub entries_say : (a : List ℤ) → IsPositionIn s.game p.number p.box a → Says (exact (entry_values s.game p.list a ns)) s.game p.later p.number p.list p.box a →
        Says (loosened s p (exact (entry_values s.game p.list (position s.game p.number p.box) ns))) s.game p.later p.number p.list p.box a
    entries_say a at h = by p.loose refl
      where
        by : (b : Bool) → p.loose ≡ b → Says (cond b (upper_bound s p p.list (entry_values s.game p.list (position s.game p.number p.box) ns)) (exact (entry_values s.game p.list (position s.game p.number p.box) ns))) s.game p.later p.number p.list p.box a
        by true l = upper_says s p a (entry_values s.game p.list (position s.game p.number p.box) ns) at.count p.list sees (λ d r k q o. first_is a d r k q o h)
        by false l = subst (λ u. Says (exact (entry_values s.game p.list u ns)) s.game p.later p.number p.list p.box a) (sym (position_is s p n l a at)) h

  -- the goal
  pub goal_told : p.later ≡ [] → NodeTold s p (loosened s p (goal_comes_to s p))
  goal_told e = record {
    says = λ a at. by a at (some_fails (restriction s.game p.number) p.box) refl (all_hold (restriction s.game p.number) p.box) refl;
    loose = loosened_inexact s p (goal_comes_to s p);
  }
    where
      last : p.number ≡ length s.game.scopes
      last = none_after s.game.scopes p.number (sym n.stands.later ∙ e) n.stands.number

      wide : before s.game p.number ≡ before s.game (suc p.number)
      wide = ap (before s.game) last ∙ sym (sound_of s.game valid).ordered.goal ∙ ap (λ z. before s.game (suc z)) (sym last)

      early : (y : VarId) → IsVisible s.game p.later p.number (Var y) → y.0 < before s.game p.number
      early y v = subst (λ ls. IsVisible s.game ls p.number (Var y)) e v

      by : (a : List ℤ) → IsAt s p a → (b : Bool) → some_fails (restriction s.game p.number) p.box ≡ b → (c : Bool) → all_hold (restriction s.game p.number) p.box ≡ c →
          Says (loosened s p (cond b lost (cond c (exact (entry_values s.game p.list (position s.game p.number p.box) (numbers_for p.list []))) unknown))) s.game p.later p.number p.list p.box a
      by a at true f c h = goal_fails s p valid e last n.stands.box f a at
      by a at false f true h =
          entries_say (numbers_for p.list []) early a at.position
          (subst (λ ls. Says (exact (entry_values s.game p.list a (numbers_for p.list []))) s.game ls p.number p.list p.box a) (sym e)
          (all_says (exact (entry_values s.game p.list a (numbers_for p.list []))) s.game [] p.number p.list p.box a
          (subst (λ t. MeansAt s.game [] p.number a p.list (goal_verdict s.game t p.list a)) allowed
          (goal_mean s.game p.number a p.list (subst (λ ls. AllVisible s.game ls p.number p.list) e (list_visible s p valid n.stands))))))
        where
          allowed : allows s.game p.number a ≡ true
          allowed = entailed_allows s.game valid p.number p.box a (at.position.count ∙ wide) (sub_in_box a p.box (declared_box s.game) n.stands.box at.position.lies) at.position.lies h
      by a at false f false h = tt

  -- at a horizon
  pub stuck_told : is_horizon p.horizon p.number ≡ true → (ls : List Scope) → p.later ≡ ls → NodeTold s p (loosened s p (stuck_comes_to s p ls))
  stuck_told h [] e = record { says = λ a at r o. nobody a at (subst (λ ls. Optimal s.game ls p.number a r) e o.optimal).1; loose = λ l. refl }
    where
      nobody : (a : List ℤ) → IsAt s p a → allows s.game p.number a ≡ true → ⊥
      nobody a at ok =
          none_pass s.game p.number a [] p.box p.horizon h at.blocked (goal_move s.game (sound_of s.game valid).ordered p.number a (none_after s.game.scopes p.number (sym n.stands.later ∙ e) n.stands.number) ok)
          (subst (λ u. InBox u p.box) (sym (append_none a)) at.position.lies)
  stuck_told h (sc ∷ later) e = by sc.kind sc.condition e
    where
      by : (k : Kind) (x : Option Condition) → p.later ≡ record { kind = k; condition = x } ∷ later → NodeTold s p (loosened s p (stuck_comes_to s p (record { kind = k; condition = x } ∷ later)))
      by Exists x q = record { says = horizon_lost s p x later q h; loose = λ l. refl }
      by Forall x q = record {
        says = λ a at.
            entries_say (numbers_for p.list []) (λ y v. subst (λ ls. IsVisible s.game ls p.number (Var y)) q v) a at.position
            (subst (λ ls. Says (exact (entry_values s.game p.list a (numbers_for p.list []))) s.game ls p.number p.list p.box a) (sym q)
            (all_says (exact (entry_values s.game p.list a (numbers_for p.list []))) s.game (universal x ∷ later) p.number p.list p.box a
            (stuck_forall s.game later x p.number a p.list (last x q) (λ t m. none_pass s.game p.number a t p.box p.horizon h at.blocked m ((subst (λ ls. MovesStay s.game ls p.number p.box) q n.moves).0 a t at.position m)))));
        loose = loosened_inexact s p (exact (entry_values s.game p.list (position s.game p.number p.box) (numbers_for p.list [])));
      }
        where
          last : (x : Option Condition) → p.later ≡ universal x ∷ later → bottleneck_last s.game p.list ≡ true
          last x q = subst (λ d. bottleneck_last s.game d ≡ true) (sym n.stands.list) (valid_bottlenecks s.game p.number x later valid (sym n.stands.later ∙ q))
