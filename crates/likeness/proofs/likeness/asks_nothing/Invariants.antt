use Rattle.std.proofs.Common.{◌≡◌, drop}
use Rattle.likeness.specs.Likeness.{ask_nothing}
use Rattle.likeness.proofs.likeness.asks_nothing.Given as goal

abbrev pub invariant-loop-i : goal.invariant-loop-i
invariant-loop-i l = ask_nothing (drop l.i l.problem.scopes) ≡ ask_nothing l.problem.scopes
