use Rattle.std.proofs.Common.{◌≡◌, ℕ, Some, [], length, slice_get}
use Rattle.qc_model.specs.declared.problem.Scope.{Scope}
use Rattle.dense_box.specs.declared.freedom.Standing.{Standing}
use Rattle.dense_box.specs.Standing.{IsStandingOf}
use Rattle.dense_box.proofs.freedom.Freedom.new.Given as goal

abbrev pub invariant-loop-i : goal.invariant-loop-i
invariant-loop-i l = record {
  count : length l.standings.items ≡ l.i;
  each : (k : ℕ) (s : Scope) (m : Standing) → slice_get l.levels.problem.now.scopes k ≡ Some s → slice_get l.standings.items k ≡ Some m → IsStandingOf l.levels.problem.now [] s k m;
}
