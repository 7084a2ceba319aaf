-- What is made of a certificate.
use Rattle.std.specs.Prelude.{◌≡◌, Option, Some, None, [], IsTrue, ℤ}
use Rattle.qc_model.specs.Content.{Game}
use Rattle.qc_model.specs.Optimal.{Optimal}
use Rattle.proof_tree.specs.declared.tree.Outcome.{Outcome}
use Rattle.proof_tree.specs.declared.tree.Outcome.TheVariants.{True, False}
use Rattle.proof_tree.specs.Tree.{Tree}
use Rattle.proof_tree.specs.Read.{strategy_of, counter_of}
use Rattle.proof_tree.specs.Proves.{proves}
use Rattle.qc_play.specs.declared.plan.Plan.{Plan}
use Rattle.qc_play.specs.declared.counter.Counter.{Counter}
use Rattle.qc_play.specs.Shape.{plan_of, tree_of_counter}
use Rattle.qc_play.specs.Ends.{IsWinning}

-- a certificate that proves that the game is won, and the strategy that it shows, which is optimal
pub record IsPlanOf (g : Game) (outcome : Outcome) (optimum : Option ℤ) (t : Tree) (plan : Plan) : Type 0 where
  pub proves : IsTrue (proves g outcome optimum t)
  pub outcome_is : outcome ≡ True
  pub reading : plan_of plan ≡ strategy_of g t
  pub optimal : Optimal g g.scopes 0 [] (plan_of plan)

-- one that proves that it isn't, and the counterstrategy that it shows, which wins
pub record IsCounterOf (g : Game) (outcome : Outcome) (optimum : Option ℤ) (t : Tree) (counter : Counter) : Type 0 where
  pub proves : IsTrue (proves g outcome optimum t)
  pub outcome_is : outcome ≡ False
  pub reading : tree_of_counter counter ≡ counter_of g t
  pub winning : IsWinning g g.scopes 0 [] (tree_of_counter counter)

-- there is one exactly where the certificate proves that
abbrev pub MakesPlan : Game → Outcome → Option ℤ → Tree → Option Plan → Type 0
MakesPlan g outcome optimum t None = IsTrue (proves g outcome optimum t) → ¬ (outcome ≡ True)
MakesPlan g outcome optimum t (Some plan) = IsPlanOf g outcome optimum t plan

abbrev pub MakesCounter : Game → Outcome → Option ℤ → Tree → Option Counter → Type 0
MakesCounter g outcome optimum t None = IsTrue (proves g outcome optimum t) → ¬ (outcome ≡ False)
MakesCounter g outcome optimum t (Some counter) = IsCounterOf g outcome optimum t counter
