-- Texts of dense certificates that were judged.
use Rattle.std.specs.Prelude.{◌≤◌, length, ⊤}
use Rattle.qc_model.specs.Content.{Game}
use Rattle.proof_tree.specs.declared.tree.Outcome.{Outcome}
use Rattle.proof_tree.specs.declared.tree.Outcome.TheVariants.{True, False, Open}
use Rattle.dense_judge.specs.Checking.{IsProof}
use Rattle.dense_solver.specs.declared.solving.Shown.{Shown}

-- it says who wins
abbrev pub IsSettled : Outcome → Type 0
IsSettled True = ⊤
IsSettled False = ⊤
IsSettled (Open turns) = ⊥

-- the text is that of a dense certificate that proves this outcome, which says who wins, and what it states is so
pub record IsShown (g : Game) (s : Shown) : Type 0 where
  pub proof : IsProof g s.text.items s.outcome s.optimum
  pub settled : IsSettled s.outcome
  pub within : length s.text.items ≤ 1073741824
