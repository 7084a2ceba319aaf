-- Trees in which closing stands in place of removals.
use Rattle.std.specs.Prelude.{List, Option, ℤ}
use Rattle.qc_model.specs.declared.problem.ScopeId.{ScopeId}
use Rattle.qc_model.specs.declared.problem.VarId.{VarId}

-- closing, or the bound that takes the values of a variable from one to another
pub data Line : Type 0 where
  close : Line
  bound : VarId → ℤ → ℤ → Line

-- as trees of proof_tree, but a horizon has no steps of its own
mutual
  pub data DenseTree : Type 0 where
    dense : Option ScopeId → DenseBody → DenseTree

  pub data DenseBody : Type 0 where
    dense_stuck : DenseBody
    dense_goal : DenseBody
    dense_cases : List Line → DenseEnding → DenseBody

  pub data DenseEnding : Type 0 where
    dense_empty : DenseEnding
    dense_barred : DenseEnding
    dense_next : DenseTree → DenseEnding
    dense_branch : VarId → DenseBranches → DenseEnding

  pub data DenseBranches : Type 0 where
    dense_no_more : DenseBranches
    dense_piece : Option ℤ → DenseCase → DenseBranches → DenseBranches

  pub data DenseCase : Type 0 where
    dense_skip : DenseCase
    dense_left_open : DenseCase
    dense_go : List Line → DenseEnding → DenseCase
