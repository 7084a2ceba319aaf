use Rattle.std.proofs.Common.{◌≡◌, ◌-◌, ◌++◌}
use Rattle.std.specs.Prelude.{map, pos}
use Rattle.model_generated.specs.Links.{demand, demands, counted_from}
use Rattle.model_generated.proofs.figures.demands.Given as goal

abbrev pub invariant-loop-customer : goal.invariant-loop-customer
invariant-loop-customer l = l.numbers ++ map (λ k. pos (demand l.n k)) (counted_from l.customer (13 - l.customer)) ≡ demands l.n
