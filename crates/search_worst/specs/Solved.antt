-- What an outcome says where chosen owners meet the worst ties.
use Rattle.std.specs.Prelude.{ℕ, Bool, Option, Some, None, ⊤, ℤ}
use Rattle.qc_model.specs.Content.{Game}
use Rattle.qc_model.specs.Game.{IsWon}
use Rattle.proof_tree.specs.declared.tree.Outcome.{Outcome}
use Rattle.proof_tree.specs.declared.tree.Outcome.TheVariants.{True, False, Open}
use Rattle.qc_pessimist.specs.Worst.{IsPessimisticOptimum}

-- the game is won, and the value stated is its pessimistic optimum; or it isn't won
abbrev pub WorstMeans : (ℕ → Bool) → Outcome → Option ℤ → Game → Type 0
WorstMeans q True None g = IsWon g
WorstMeans q True (Some v) g = IsWon g × IsPessimisticOptimum q g.scopes g v
WorstMeans q False v g = ¬ IsWon g
WorstMeans q (Open n) v g = ⊤
