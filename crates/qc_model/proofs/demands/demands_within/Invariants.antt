use Rattle.std.proofs.Common.{◌≡◌, ◌++◌, length, map, drop}
use Rattle.qc_model.specs.Demands.{demand_within}
use Rattle.qc_model.proofs.demands.demands_within.Given as goal

abbrev pub invariant-loop-entry : goal.invariant-loop-entry
invariant-loop-entry l = (length l.list ≡ l.entry-index) × (l.list ++ map (demand_within l.draft) (drop l.entry-index l.entries) ≡ map (demand_within l.draft) l.entries)
