-- Whether what a certificate's head states can be shown at all.
use Rattle.std.specs.Prelude.{Bool, true, false, not, List, Option, Some, None, ℤ}
use Rattle.qc_model.specs.declared.problem.Scope.{Scope}
use Rattle.proof_tree.specs.declared.tree.Outcome.{Outcome}
use Rattle.proof_tree.specs.declared.tree.Outcome.TheVariants.{True, False, Open}
use Rattle.proof_tree.specs.Proves.{optimises_first}

-- an optimum stands beside True where the first scope optimises, and there alone: no tree proves another head
abbrev pub is_head : List Scope → Outcome → Option ℤ → Bool
is_head scopes True None = not (optimises_first scopes)
is_head scopes True (Some v) = optimises_first scopes
is_head scopes False None = true
is_head scopes False (Some v) = false
is_head scopes (Open n) None = true
is_head scopes (Open n) (Some v) = false
