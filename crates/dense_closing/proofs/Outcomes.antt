-- What dense trees prove is so.
use Rattle.std.proofs.Common.{Option, ℤ}
use Rattle.std.specs.Prelude.{IsTrue}
use Rattle.qc_model.specs.Content.{Game}
use Rattle.qc_model.specs.Valid.{IsValid}
use Rattle.proof_tree.specs.declared.tree.Outcome.{Outcome}
use Rattle.proof_tree.specs.Meaning.{OutcomeMeans}
use Rattle.proof_meaning.proofs.Outcomes.{outcome_means}
use Rattle.dense_closing.specs.Tree.{DenseTree}
use Rattle.dense_closing.specs.Expanded.{root_expanded, dense_proves}

pub dense_true : (g : Game) (outcome : Outcome) (optimum : Option ℤ) (t : DenseTree) → IsValid g → IsTrue (dense_proves g outcome optimum t) → OutcomeMeans outcome optimum g (root_expanded g t)
dense_true g outcome optimum t valid h = outcome_means g outcome optimum (root_expanded g t) valid h
