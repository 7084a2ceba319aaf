-- What the search answers.
use Rattle.std.specs.Prelude.{◌≡◌, ◌≤◌, ◌<◌, ℕ, Option, List, IsTrue, ℤ, ⊤}
use Rattle.std.specs.List.{list_all}
use Rattle.qc_model.specs.Content.{Game}
use Rattle.qc_model.specs.Turns.{full_turns_of}
use Rattle.proof_tree.specs.declared.line.Line.{Line}
use Rattle.proof_tree.specs.declared.tree.Outcome.{Outcome}
use Rattle.proof_tree.specs.declared.tree.Outcome.TheVariants.{True, False, Open}
use Rattle.proof_tree.specs.declared.tree.Version.TheVariants.{Two}
use Rattle.proof_tree.specs.Tree.{Tree}
use Rattle.proof_tree.specs.Counts.{turns_of}
use Rattle.proof_tree.specs.Diligent.{IsDiligent}
use Rattle.proof_tree.specs.Incumbents.{keeps_incumbents}
use Rattle.proof_tree.specs.Lines.{tree_lines}
use Rattle.proof_tree.specs.Meaning.{OutcomeMeans}
use Rattle.proof_tree.specs.Order.{in_order}
use Rattle.proof_tree.specs.Proves.{proves}
use Rattle.proof_tree.specs.Text.{has_text}
use Rattle.strategy_arena.specs.Certificate.{line_fits}
use Rattle.qc_model.specs.Verdict.{Verdict, lost, exact, at_most, unknown}

-- Open only where the budget is spent, and less than the game can take
pub record IsSpent (g : Game) (turns n : ℕ) (t : Tree) : Type 0 where
  pub all : n ≡ turns
  pub taken : turns_of t ≡ n
  pub below : n < full_turns_of g

abbrev pub OpenMeans : Outcome → Game → ℕ → Tree → Type 0
OpenMeans True g turns t = ⊤
OpenMeans False g turns t = ⊤
OpenMeans (Open n) g turns t = IsSpent g turns n t

-- a certificate that a search within the budget may answer with this tree
pub record Solution (g : Game) (turns : ℕ) (outcome : Outcome) (optimum : Option ℤ) (t : Tree) : Type 0 where
  pub proves : IsTrue (proves g outcome optimum t)
  pub in_order : IsTrue (in_order g t)
  pub diligent : IsDiligent g t
  pub incumbents : IsTrue (keeps_incumbents g t)
  pub few : turns_of t ≤ turns
  pub spent : OpenMeans outcome g turns t
  pub means : OutcomeMeans outcome optimum g t
  pub has_text : IsTrue (has_text Two outcome optimum t)

-- the lines of such a certificate, which all fit the text
pub record SolutionLines (g : Game) (turns : ℕ) (outcome : Outcome) (optimum : Option ℤ) (lines : List Line) : Type 0 where
  pub tree : Tree
  pub is_lines : lines ≡ tree_lines tree
  pub fits : IsTrue (list_all line_fits lines)
  pub solution : Solution g turns outcome optimum tree

-- the outcome that a root's verdict shows
abbrev pub outcome_by : Verdict → ℕ → Outcome
outcome_by lost turns = False
outcome_by (exact v) turns = True
outcome_by (at_most p) turns = Open turns
outcome_by unknown turns = Open turns
