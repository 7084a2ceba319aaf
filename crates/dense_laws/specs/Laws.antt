-- The law of dense certificates.
use Rattle.std.specs.Prelude.{Option, IsTrue, ℤ}
use Rattle.qc_model.specs.Content.{Game}
use Rattle.qc_model.specs.Valid.{IsValid}
use Rattle.proof_tree.specs.declared.tree.Outcome.{Outcome}
use Rattle.dense_tree.specs.Tree.{Certificate}
use Rattle.dense_tree.specs.Proves.{proves}
use Rattle.dense_laws.specs.Says.{DenseMeans}

-- what a certificate that proves its outcome says of a valid game is so
abbrev pub CertificatesAreTrue : Type 0
CertificatesAreTrue = (g : Game) (outcome : Outcome) (optimum : Option ℤ) (c : Certificate) → IsValid g → IsTrue (proves g outcome optimum c) → DenseMeans outcome optimum g
