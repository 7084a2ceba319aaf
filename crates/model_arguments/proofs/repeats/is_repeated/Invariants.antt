use Rattle.std.proofs.Common.{◌≡◌, ℕ, ◌<◌, ◌≤◌, length, drop, get_or, false}
use Rattle.std.specs.List.{list_any}
use Rattle.qc_model.specs.declared.problem.Arg.TheVariants.{Var}
use Rattle.model_arguments.specs.Repeats.{same_variable, has_repeat}
use Rattle.model_arguments.proofs.repeats.is_repeated.Given as goal

abbrev pub invariant-loop-k : goal.invariant-loop-k
invariant-loop-k l = record {
  within : l.k ≤ length l.items;
  marks : length l.marks ≡ 500;
  none : has_repeat (drop l.k l.items) ≡ false;
  marked : (y : ℕ) → y < 500 → get_or l.marks y false ≡ list_any (same_variable (Var (record { 0 = y }))) (drop l.k l.items);
}

abbrev pub decreases-loop-k : goal.decreases-loop-k
decreases-loop-k l = l.k
