-- What the text of a certificate that `solve` writes is.
use Rattle.std.specs.Prelude.{◌≡◌, ◌≤◌, ℕ, ℤ, List, Option, IsTrue}
use Rattle.qc_model.specs.Content.{Game}
use Rattle.proof_tree.specs.declared.tree.Version.TheVariants.{Two}
use Rattle.proof_tree.specs.declared.tree.Outcome.{Outcome}
use Rattle.proof_tree.specs.declared.tree.Outcome.TheVariants.{True, False, Open as OpenOutcome}
use Rattle.proof_tree.specs.Tree.{Tree}
use Rattle.proof_tree.specs.Proves.{proves}
use Rattle.proof_tree.specs.Order.{in_order}
use Rattle.proof_tree.specs.Diligent.{IsDiligent}
use Rattle.proof_tree.specs.Incumbents.{keeps_incumbents}
use Rattle.proof_tree.specs.Meaning.{OutcomeMeans}
use Rattle.proof_tree.specs.Text.{certificate_text, has_text}
use Rattle.proof_tree.specs.Counts.{turns_of}
use Rattle.game_search.specs.Solution.{OpenMeans}
use Rattle.qecode_commands.specs.declared.status.Status.{Status}
use Rattle.qecode_commands.specs.declared.status.Status.TheVariants.{Done, Open}

-- how a run of `solve` ends whose certificate states this
abbrev pub status_of : Outcome → Status
status_of True = Done
status_of False = Done
status_of (OpenOutcome n) = Open

-- The text is that of a certificate of the second version that proves what it states, is in order, diligent and keeps its
-- incumbents, and takes at most as many turns as were given. Open is stated only after exactly these turns, and the whole game can take more. What it
-- states is so: with true the game is won, and the strategy read from the tree is optimal, with the first scope's best value
-- where it optimises; with false the game isn't won, and the counterstrategy read from the tree wins.
pub record Certifies (g : Game) (turns : ℕ) (status : Status) (text : List ℕ) : Type 0 where
  pub outcome : Outcome
  pub optimum : Option ℤ
  pub root : Tree
  pub proved : IsTrue (proves g outcome optimum root)
  pub ordered : IsTrue (in_order g root)
  pub diligent : IsDiligent g root
  pub incumbents : IsTrue (keeps_incumbents g root)
  pub few : turns_of root ≤ turns
  pub spent : OpenMeans outcome g turns root
  pub spellable : IsTrue (has_text Two outcome optimum root)
  pub spelled : text ≡ certificate_text Two outcome optimum root
  pub ends : status ≡ status_of outcome
  pub means : OutcomeMeans outcome optimum g root
