use Rattle.std.proofs.Common.{◌≡◌, ℕ, Some, length}
use Rattle.std.specs.Prelude.{slice_get}
use Rattle.model_levels.specs.declared.level.Level.{Level}
use Rattle.model_levels.proofs.scopes.levels_of.Given as goal

abbrev pub invariant-loop-i : goal.invariant-loop-i
invariant-loop-i l = record {
  count : length l.levels.items ≡ l.i;
  numbers : (k : ℕ) (m : Level) → slice_get l.levels.items k ≡ Some m → m.number ≡ k;
  problems : (k : ℕ) (m : Level) → slice_get l.levels.items k ≡ Some m → m.problem.now ≡ l.problem;
}
