use Rattle.std.proofs.Common.{◌≡◌, ◌++◌, take}
use Rattle.search_trim.proofs.slice.append.Given as goal

abbrev pub invariant-loop-step : goal.invariant-loop-step
invariant-loop-step l = l.list ≡ l.fn.list ++ take l.step-index l.steps
