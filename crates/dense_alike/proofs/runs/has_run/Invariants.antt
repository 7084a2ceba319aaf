use Rattle.std.specs.Prelude.{nat_abs, ◌-ℤ◌, ◌≤ℤ◌}
use Rattle.qc_model.specs.Domains.{values_left}
use Rattle.dense_alike.proofs.InARow.{Begins}
use Rattle.dense_alike.proofs.runs.has_run.Given as goal

abbrev pub invariant-loop-v : goal.invariant-loop-v
invariant-loop-v l = record {
  up : l.range.first ≤ℤ l.v;
  down : l.v ≤ℤ l.range.last;
  begins : Begins (values_left l.store.box l.x.0) l.range.first l.v;
}

abbrev pub decreases-loop-v : goal.decreases-loop-v
decreases-loop-v l = nat_abs (l.range.last -ℤ l.v)
