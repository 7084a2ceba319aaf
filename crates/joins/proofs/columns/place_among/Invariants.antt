use Rattle.std.proofs.Common.{◌≡◌, ◌+◌, drop}
use Rattle.qc_model.specs.Demands.{place_among}
use Rattle.joins.proofs.columns.place_among.Given as goal

abbrev pub invariant-loop-entry : goal.invariant-loop-entry
invariant-loop-entry l = (l.place ≡ l.entry-index) × (l.place + place_among l.fn.q.0 (drop l.entry-index l.entries) ≡ place_among l.fn.q.0 l.entries)
