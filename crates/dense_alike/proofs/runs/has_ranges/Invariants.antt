use Rattle.std.proofs.Common.{◌≡◌, drop}
use Rattle.qc_model.specs.Domains.{values_left}
use Rattle.qc_model.specs.Lists.{same_values}
use Rattle.fd_store.specs.Held.{values_from}
use Rattle.dense_alike.specs.Ranges.{values_of}
use Rattle.dense_alike.proofs.runs.has_ranges.Given as goal

abbrev pub invariant-loop-range : goal.invariant-loop-range
invariant-loop-range l =
    same_values (values_from l.from (values_left l.store.box l.x.0)) (values_of (drop l.range-index l.ranges))
    ≡ same_values (values_left l.store.box l.x.0) (values_of l.ranges)
