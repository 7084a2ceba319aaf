use Rattle.std.proofs.Common.{◌≡◌, ◌++◌, drop, map}
use Rattle.qc_pessimist.specs.Opposed.{move_aggregate}
use Rattle.qc_pessimist.specs.Table.{place_in}
use Rattle.qc_pessimist.proofs.opposed.moved_aggregates.Given as goal

abbrev pub invariant-loop-aggregate : goal.invariant-loop-aggregate
invariant-loop-aggregate l =
    l.moved.items ++ map (move_aggregate (place_in l.table)) (drop l.aggregate-index l.aggregates) ≡ map (move_aggregate (place_in l.table)) l.aggregates
