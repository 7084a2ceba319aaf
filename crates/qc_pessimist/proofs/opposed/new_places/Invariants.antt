use Rattle.std.proofs.Common.{◌≡◌, ◌++◌, ◌≤◌, ◌*◌, drop}
use Rattle.qc_pessimist.specs.Refusals.{is_chosen}
use Rattle.qc_pessimist.specs.Table.{places_from}
use Rattle.qc_pessimist.proofs.opposed.new_places.Given as goal

abbrev pub invariant-loop-i : goal.invariant-loop-i
invariant-loop-i l =
    (l.table.items ++ places_from (is_chosen l.places) l.i (drop l.i l.problem.scopes) l.place ≡ places_from (is_chosen l.places) 0 l.problem.scopes 0)
    × (l.place ≤ 2 * l.i)
