use Rattle.std.proofs.Common.{◌≡◌, take}
use Rattle.prop_engine.specs.Watching.{changed_by}
use Rattle.qc_cascade.proofs.adding.changed_since.Given as goal

abbrev pub invariant-loop-step : goal.invariant-loop-step
invariant-loop-step l = l.variables.items ≡ changed_by (take l.step-index l.fresh)
