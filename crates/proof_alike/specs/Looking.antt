-- Trees whose removals are of variables that are looked at. That a removal is legal doesn't say so: a sum lets values of each
-- of its variables go, and a constraint that refutes the box as it is any value of any variable.
use Rattle.std.specs.Prelude.{ℕ, Bool, true}
use Rattle.qc_model.specs.Content.{Game}
use Rattle.proof_tree.specs.declared.tree.Step.{Step}
use Rattle.proof_tree.specs.declared.tree.Step.TheVariants.{Prune, Bound}
use Rattle.proof_tree.specs.Tree.{Tree}
use Rattle.proof_alike.specs.Alike.{is_looked_at}
use Rattle.proof_alike.specs.EachStep.{each_step}

-- the step removes values of a variable that is looked at from scope i on. Nothing is asked of a bound: in place it is of a
-- variable that a condition mentions
abbrev pub step_looks : Game → ℕ → Step → Bool
step_looks g i (Prune x low high c) = is_looked_at g i x.0
step_looks g i (Bound x low high) = true

-- each removal of the tree is of a variable that is looked at from scope i on
abbrev pub looks : Game → ℕ → Tree → Bool
looks g i t = each_step (step_looks g i) t
