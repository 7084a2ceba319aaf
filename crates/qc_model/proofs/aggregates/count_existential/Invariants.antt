use Rattle.std.proofs.Common.{◌≡◌, ◌+◌, drop}
use Rattle.qc_model.specs.BlockEnd.{exists_run}
use Rattle.qc_model.proofs.aggregates.count_existential.Given as goal

abbrev pub invariant-loop-scope : goal.invariant-loop-scope
invariant-loop-scope l = (l.count ≡ l.scope-index) × (l.count + exists_run (drop l.scope-index l.scopes) ≡ exists_run l.scopes)
