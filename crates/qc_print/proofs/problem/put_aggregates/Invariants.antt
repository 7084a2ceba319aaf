use Rattle.std.proofs.Common.{◌≡◌, ◌++◌, drop}
use Rattle.std.specs.Prelude.{flat_map}
use Rattle.qc_model.specs.Canonical.{aggregate_text}
use Rattle.qc_print.proofs.problem.put_aggregates.Given as goal

abbrev pub invariant-loop-aggregate : goal.invariant-loop-aggregate
invariant-loop-aggregate l =
    l.out.items ++ flat_map (aggregate_text l.problem) (drop l.aggregate-index l.aggregates) ≡ l.fn.out.items ++ flat_map (aggregate_text l.problem) l.aggregates
