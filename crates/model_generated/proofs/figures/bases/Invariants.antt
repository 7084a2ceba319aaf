use Rattle.std.proofs.Common.{◌≡◌, ◌-◌, ◌++◌}
use Rattle.std.specs.Prelude.{flat_map}
use Rattle.model_generated.specs.Links.{bases_of, bases, counted_from}
use Rattle.model_generated.proofs.figures.bases.Given as goal

abbrev pub invariant-loop-customer : goal.invariant-loop-customer
invariant-loop-customer l = l.numbers ++ flat_map (bases_of l.n) (counted_from l.customer (13 - l.customer)) ≡ bases l.n
