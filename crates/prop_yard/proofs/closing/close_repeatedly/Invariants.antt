use Rattle.std.proofs.Common.{◌≡◌}
use Rattle.prop_engine.specs.Watching.{IsReady}
use Rattle.prop_yard.proofs.closing.close_repeatedly.Given as goal

-- the engine is ready, and the box is as it was
abbrev pub invariant-loop-k : goal.invariant-loop-k
invariant-loop-k g l = IsReady l.problem l.engine × (l.store.box ≡ l.fn.store.box)
