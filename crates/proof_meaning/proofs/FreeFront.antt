-- Free scopes, and how many variables stand before a scope.
use Rattle.std.proofs.Common.{ℕ, suc, ◌≤◌, cond, List, [], ◌∷◌, arith, Option, Some, None}
use Rattle.std.specs.Prelude.{nat_lt, is_some}
use Rattle.std.proofs.lemmas.List.Sums.{sum_by-le-sum_by}
use Rattle.std.proofs.lemmas.Bool.Decides.{nat_tests}
use Rattle.qc_model.specs.declared.problem.Kind.{Kind}
use Rattle.qc_model.specs.declared.problem.Kind.TheVariants.{Exists, Forall}
use Rattle.qc_model.specs.declared.problem.Condition.{Condition}
use Rattle.qc_model.specs.declared.problem.Scope.{Scope}
use Rattle.qc_model.specs.Content.{Game}
use Rattle.qc_model.specs.Game.{before}
use Rattle.qc_model.specs.Block.{of_kind}
use Rattle.proof_tree.specs.Fair.{free_stop}

pub before_wider : (g : Game) (i j : ℕ) → i ≤ j → before g i ≤ before g j
before_wider g i j l = sum_by-le-sum_by _ _ g.variables (λ x. step x.scope.0)
  where
    step : (k : ℕ) → cond (nat_lt k i) 1 0 ≤ cond (nat_lt k j) 1 0
    step k = grind (arith, nat_tests)

pub free_above : (later : List Scope) (i : ℕ) → i ≤ free_stop later i
free_above [] i = omega arith
free_above (s ∷ later) i = by s.kind s.condition (free_above later (suc i))
  where
    by : (k : Kind) (c : Option Condition) → suc i ≤ free_stop later (suc i) → i ≤ of_kind k (cond (is_some c) i (free_stop later (suc i))) i
    by Exists None l = omega arith
    by Exists (Some c) l = omega arith
    by Forall c l = omega arith
