use Rattle.std.proofs.Common.{◌≡◌, ℕ, length, Some}
use Rattle.std.specs.Prelude.{slice_get}
use Rattle.qc_model.specs.declared.problem.Scope.{Scope}
use Rattle.joins.specs.declared.scope_join.ScopeJoin.{ScopeJoin}
use Rattle.joins.specs.ScopeJoins.{JoinsScope}
use Rattle.joins.proofs.joins.Joins.new.Given as goal

abbrev pub invariant-loop-i : goal.invariant-loop-i
invariant-loop-i l = record {
  count : length l.joins.items ≡ l.i;
  each : (k : ℕ) (s : Scope) (j : ScopeJoin) → slice_get l.problem.scopes k ≡ Some s → slice_get l.joins.items k ≡ Some j → JoinsScope l.problem k s j;
}
