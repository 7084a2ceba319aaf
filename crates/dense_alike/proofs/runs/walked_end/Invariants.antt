use Rattle.std.proofs.Common.{◌≡◌, true}
use Rattle.std.specs.Prelude.{nat_abs, pos, ◌-ℤ◌}
use Rattle.qc_model.specs.Domains.{values_left}
use Rattle.qc_model.specs.Valid.{is_range}
use Rattle.dense_alike.proofs.InARow.{Begins}
use Rattle.dense_alike.proofs.runs.walked_end.Given as goal

abbrev pub invariant-loop-x : goal.invariant-loop-x
invariant-loop-x l = record {
  range : is_range l.v l.last ≡ true;
  begins : Begins (values_left l.store.box l.x.0) l.v l.last;
}

abbrev pub decreases-loop-x : goal.decreases-loop-x
decreases-loop-x l = nat_abs (pos 1000000001 -ℤ l.last)
