use Rattle.std.proofs.Common.{◌≤◌, length, map}
use Rattle.qc_model.specs.Holds.{rows}
use Rattle.qc_model.specs.Refuted.{left_to}
use Rattle.prop_element.specs.Tables.{IsWalk, fits_beyond}
use Rattle.prop_element.proofs.tables.next_row.Given as goal

abbrev pub invariant-loop-row : goal.invariant-loop-row
invariant-loop-row l = record {
  walk : IsWalk (fits_beyond (map (left_to l.store.box) l.items) l.k l.low l.high) (rows (length l.items) l.numbers) (rows (length l.items) l.rest);
  fewer : length l.rest ≤ length l.numbers;
}

abbrev pub decreases-loop-row : goal.decreases-loop-row
decreases-loop-row l = length l.rest
