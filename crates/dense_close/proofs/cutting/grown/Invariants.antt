use Rattle.std.specs.Prelude.{◌≤ℤ◌}
use Rattle.qc_model.specs.Domains.{values_left, least_value, greatest_value}
use Rattle.dense_close.specs.Cutting.{IsInside, IsStretch, end_of}
use Rattle.dense_close.proofs.cutting.grown.Given as goal

abbrev pub invariant-loop : goal.invariant-loop
invariant-loop l = record {
  refuted : IsStretch l.problem l.c.0 l.x.0 l.store.box l.s.low l.s.high;
  within : IsInside (least_value (values_left l.store.box l.x.0)) (greatest_value (values_left l.store.box l.x.0)) l.s.low l.s.high;
  low : l.s.low ≤ℤ end_of l.fn.end l.store.box l.x.0;
  high : end_of l.fn.end l.store.box l.x.0 ≤ℤ l.s.high;
}
