-- What is made of a certificate that was judged.
use Rattle.std.proofs.Common.{◌≡◌, true, false, ◌&&◌, [], sym, ◌∙◌, subst, Option, Some, None, ℤ}
use Rattle.std.specs.Prelude.{IsTrue}
use Rattle.std.proofs.lemmas.Bool.{and_parts, true≢false}
use Rattle.qc_model.specs.Content.{Game}
use Rattle.qc_model.specs.Optimal.{Optimal}
use Rattle.qc_model.specs.Verdict.{is_exact, is_lost}
use Rattle.proof_tree.specs.declared.tree.Outcome.{Outcome}
use Rattle.proof_tree.specs.declared.tree.Outcome.TheVariants.{True, False}
use Rattle.proof_tree.specs.Tree.{Tree}
use Rattle.proof_tree.specs.InPlace.{root_in_place}
use Rattle.proof_tree.specs.Read.{root_finding, strategy_of, counter_of}
use Rattle.proof_tree.specs.Proves.{proves, shows}
use Rattle.proof_tree.specs.Meaning.{OutcomeMeans, TrueMeans}
use Rattle.qc_play.specs.declared.plan.Plan.{Plan}
use Rattle.qc_play.specs.declared.counter.Counter.{Counter}
use Rattle.qc_play.specs.Shape.{plan_of, tree_of_counter}
use Rattle.qc_play.specs.Ends.{IsWinning}
use Rattle.qc_play.specs.Made.{IsPlanOf, IsCounterOf}

module _ (g : Game) (p : Option ℤ) (t : Tree) (o : Outcome) where
  pub not_proved : proves g o p t ≡ false → IsTrue (proves g o p t) → ⊥
  not_proved n e = true≢false (sym e ∙ n)

  pub states : (x : Outcome) → o ≡ x → proves g o p t ≡ true → IsTrue (proves g x p t)
  states x q e = subst (λ y. IsTrue (proves g y p t)) q e

  pub placed : proves g o p t ≡ true → root_in_place g t ≡ true
  placed e = (and_parts (root_in_place g t) (shows g t (root_finding g t) o p) e).0

  exact_true : (q : Option ℤ) → shows g t (root_finding g t) True q ≡ true → is_exact (root_finding g t).verdict ≡ true
  exact_true None e = (and_parts (is_exact (root_finding g t).verdict) _ e).0
  exact_true (Some v) e = (and_parts (is_exact (root_finding g t).verdict) _ (and_parts (is_exact (root_finding g t).verdict && _) _ e).0).0

  lost_false : (q : Option ℤ) → shows g t (root_finding g t) False q ≡ true → is_lost (root_finding g t).verdict ≡ true
  lost_false None e = e
  lost_false (Some v) e = absurd (true≢false (sym e))

  pub won_exact : IsTrue (proves g True p t) → is_exact (root_finding g t).verdict ≡ true
  won_exact e = exact_true p (and_parts (root_in_place g t) (shows g t (root_finding g t) True p) e).1

  pub lost_lost : IsTrue (proves g False p t) → is_lost (root_finding g t).verdict ≡ true
  lost_lost e = lost_false p (and_parts (root_in_place g t) (shows g t (root_finding g t) False p) e).1

  means_true : (q : Option ℤ) → OutcomeMeans True q g t → TrueMeans g t
  means_true None m = m
  means_true (Some v) m = m.0

  pub plan_made : (plan : Plan) → o ≡ True → IsTrue (proves g True p t) → OutcomeMeans True p g t → plan_of plan ≡ strategy_of g t → IsPlanOf g o p t plan
  plan_made plan q e m r = record {
    proves = subst (λ x. IsTrue (proves g x p t)) (sym q) e;
    outcome_is = q;
    reading = r;
    optimal = subst (λ s. Optimal g g.scopes 0 [] s) (sym r) (means_true p m).optimal;
  }

  pub counter_made : (counter : Counter) → o ≡ False → IsTrue (proves g False p t) → OutcomeMeans False p g t → tree_of_counter counter ≡ counter_of g t → IsCounterOf g o p t counter
  counter_made counter q e m r = record {
    proves = subst (λ x. IsTrue (proves g x p t)) (sym q) e;
    outcome_is = q;
    reading = r;
    winning = subst (λ s. IsWinning g g.scopes 0 [] s) (sym r) (record { wins = m.loses; once = m.once });
  }
