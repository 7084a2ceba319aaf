use Rattle.std.proofs.Common.{◌≡◌, ◌≤◌, [], length, drop}
use Rattle.qc_model.specs.Demands.{first_namings}
use Rattle.qc_model.proofs.demands.first_namings.Given as goal

abbrev pub invariant-loop-entry : goal.invariant-loop-entry
invariant-loop-entry l = (length l.list ≤ l.entry-index) × (first_namings l.list (drop l.entry-index l.entries) ≡ first_namings [] l.entries)
