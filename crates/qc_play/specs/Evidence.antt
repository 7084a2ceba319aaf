-- What a certificate shows, whatever it states.
use Rattle.std.specs.Prelude.{◌≡◌, ℕ, Option, IsTrue, ℤ}
use Rattle.qc_model.specs.Content.{Game}
use Rattle.proof_tree.specs.declared.tree.Outcome.{Outcome}
use Rattle.proof_tree.specs.declared.tree.Outcome.TheVariants.{Open as OpenOutcome}
use Rattle.proof_tree.specs.Tree.{Tree}
use Rattle.proof_tree.specs.Proves.{proves}
use Rattle.qc_play.specs.Made.{IsPlanOf, IsCounterOf}
use Rattle.qc_play.specs.declared.evidence.Evidence.{Evidence}
use Rattle.qc_play.specs.declared.evidence.Evidence.TheVariants.{Plan, Counter, Open, NotProved}

-- a certificate that proves that the game was left open after n turns
pub record IsLeftOpen (g : Game) (outcome : Outcome) (optimum : Option ℤ) (t : Tree) (n : ℕ) : Type 0 where
  pub proves : IsTrue (proves g outcome optimum t)
  pub outcome_is : outcome ≡ OpenOutcome n

-- the certificate shows this, and nothing exactly where it doesn't prove what it states
abbrev pub IsEvidence : Game → Outcome → Option ℤ → Tree → Evidence → Type 0
IsEvidence g outcome optimum t (Plan plan) = IsPlanOf g outcome optimum t plan
IsEvidence g outcome optimum t (Counter counter) = IsCounterOf g outcome optimum t counter
IsEvidence g outcome optimum t (Open n) = IsLeftOpen g outcome optimum t n
IsEvidence g outcome optimum t NotProved = ¬ (IsTrue (proves g outcome optimum t))
