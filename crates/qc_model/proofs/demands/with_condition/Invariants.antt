use Rattle.std.proofs.Common.{◌≡◌, ◌≤◌, ◌+◌, ◌++◌, length, drop}
use Rattle.qc_model.specs.Demands.{with_condition}
use Rattle.qc_model.proofs.demands.with_condition.Given as goal

abbrev pub invariant-loop-entry : goal.invariant-loop-entry
invariant-loop-entry l = (length l.list ≤ l.entry-index + 1) × (l.list ++ drop l.entry-index l.entries ≡ with_condition l.fn.condition l.entries)
