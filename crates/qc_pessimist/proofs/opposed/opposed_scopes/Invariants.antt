use Rattle.std.proofs.Common.{◌≡◌, ◌++◌, drop}
use Rattle.qc_pessimist.specs.Opposed.{with_opposing}
use Rattle.qc_pessimist.specs.Refusals.{is_chosen}
use Rattle.qc_pessimist.proofs.opposed.opposed_scopes.Given as goal

abbrev pub invariant-loop-i : goal.invariant-loop-i
invariant-loop-i l =
    l.scopes.items ++ with_opposing (is_chosen l.places) l.i (drop l.i l.problem.scopes) ≡ with_opposing (is_chosen l.places) 0 l.problem.scopes
