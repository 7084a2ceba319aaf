-- What is shown where a scope's owner is stuck.
use Rattle.std.proofs.Common.{◌≡◌, [], ◌∷◌, List, refl, ℤ}
use Rattle.qc_model.specs.declared.problem.Kind.{Kind}
use Rattle.qc_model.specs.declared.problem.Kind.TheVariants.{Exists, Forall}
use Rattle.qc_model.specs.declared.problem.Condition.{Condition}
use Rattle.qc_model.specs.declared.problem.Scope.{Scope}
use Rattle.qc_model.specs.Content.{Game}
use Rattle.proof_tree.specs.Finding.{stuck_finding, kind_stuck}
use Rattle.qc_play.specs.Stuck.{nothing_answered, stuck_strategy, stuck_counterstrategy}

kind_plan : (k : Kind) (g : Game) (d : List Condition) (a : List ℤ) → nothing_answered Forall k ≡ (kind_stuck k g d a).strategy
kind_plan Exists g d a = refl
kind_plan Forall g d a = refl

kind_counter : (k : Kind) (g : Game) (d : List Condition) (a : List ℤ) → nothing_answered Exists k ≡ (kind_stuck k g d a).counter
kind_counter Exists g d a = refl
kind_counter Forall g d a = refl

pub plan_is : (ss : List Scope) (g : Game) (d : List Condition) (a : List ℤ) → stuck_strategy ss ≡ (stuck_finding ss g d a).strategy
plan_is [] g d a = refl
plan_is (s ∷ ss) g d a = kind_plan s.kind g d a

pub counter_is : (ss : List Scope) (g : Game) (d : List Condition) (a : List ℤ) → stuck_counterstrategy ss ≡ (stuck_finding ss g d a).counter
counter_is [] g d a = refl
counter_is (s ∷ ss) g d a = kind_counter s.kind g d a
