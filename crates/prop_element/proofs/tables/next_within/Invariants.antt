use Rattle.std.proofs.Common.{◌≤◌, length}
use Rattle.qc_model.specs.Holds.{rows}
use Rattle.prop_element.specs.Tables.{IsWalk, has_entry}
use Rattle.prop_element.proofs.tables.next_within.Given as goal

abbrev pub invariant-loop-rest : goal.invariant-loop-rest
invariant-loop-rest l = record {
  walk : IsWalk (has_entry l.k l.from l.to) (rows l.width l.numbers) (rows l.width l.rest);
  fewer : length l.rest ≤ length l.numbers;
}

abbrev pub decreases-loop-rest : goal.decreases-loop-rest
decreases-loop-rest l = length l.rest
