-- What the answer for the new problem says of the old one.
use Rattle.std.proofs.Common.{ℕ, Bool, List}
use Rattle.std.specs.Prelude.{Option, Some, None, ℤ}
use Rattle.qc_model.specs.Content.{Game}
use Rattle.proof_tree.specs.declared.line.Line.{Line}
use Rattle.proof_tree.specs.declared.tree.Outcome.{Outcome}
use Rattle.proof_tree.specs.declared.tree.Outcome.TheVariants.{True, False, Open}
use Rattle.proof_tree.specs.Tree.{Tree}
use Rattle.proof_tree.specs.Meaning.{OutcomeMeans}
use Rattle.game_search.specs.Solution.{SolutionLines}
use Rattle.qc_pessimist.specs.Laws.{ReadsAtWorst}
use Rattle.search_worst.specs.Solved.{WorstMeans}

outcome_means : (q : ℕ → Bool) (g h : Game) → ReadsAtWorst q g h → (outcome : Outcome) (optimum : Option ℤ) (t : Tree) → OutcomeMeans outcome optimum h t → WorstMeans q outcome optimum g
outcome_means q g h r True None t m = r.won.0 m.won
outcome_means q g h r True (Some v) t m = (r.won.0 m.0.won, (r.optimum v).0 m.1)
outcome_means q g h r False v t m = λ w. m.not_won (r.won.1 w)
outcome_means q g h r (Open n) v t m = tt

pub worst_means : (q : ℕ → Bool) (g h : Game) → ReadsAtWorst q g h → (turns : ℕ) (outcome : Outcome) (optimum : Option ℤ) (lines : List Line) →
    SolutionLines h turns outcome optimum lines → WorstMeans q outcome optimum g
worst_means q g h r turns outcome optimum lines s = outcome_means q g h r outcome optimum s.tree s.solution.means
