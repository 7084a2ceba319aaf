use Rattle.std.specs.Prelude.{nat_abs, pos, ◌-ℤ◌}
use Rattle.qc_model.specs.Domains.{values_left}
use Rattle.dense_alike.proofs.InARow.{IsPushed}
use Rattle.dense_alike.proofs.runs.push_left.Given as goal

abbrev pub invariant-loop-first : goal.invariant-loop-first
invariant-loop-first l = IsPushed l.fn.ranges.items l.ranges.items (values_left l.store.box l.x.0) l.from

abbrev pub decreases-loop-first : goal.decreases-loop-first
decreases-loop-first l = nat_abs (pos 1000000002 -ℤ l.from)
