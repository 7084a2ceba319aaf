use Rattle.std.proofs.Common.{◌≡◌, ℕ, ◌<◌, ◌≤◌, ◌-◌, length, true}
use Rattle.std.specs.Prelude.{slice_get, Some}
use Rattle.std.specs.List.{list_all}
use Rattle.qc_model.specs.Arguments.{variables_of}
use Rattle.qc_model.specs.Content.{Rule}
use Rattle.prop_engine.specs.Watching.{is_watched, AscendTo, AreRight}
use Rattle.prop_engine.proofs.watching.Watches.of_problem.Given as goal

abbrev pub invariant-loop-c : goal.invariant-loop-c
invariant-loop-c l = record {
  count : length l.watches ≡ length l.problem.variables;
  below : l.c ≤ length l.problem.constraints;
  watched : (k : ℕ) (r : Rule) → k < l.c → slice_get l.problem.constraints k ≡ Some r → list_all (is_watched l.watches k) (variables_of r.args) ≡ true;
  right : AreRight l.problem l.watches;
  order : AscendTo l.c l.watches;
}

abbrev pub decreases-loop-c : goal.decreases-loop-c
decreases-loop-c l = length l.problem.constraints - l.c
