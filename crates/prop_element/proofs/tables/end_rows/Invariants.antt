use Rattle.std.proofs.Common.{◌≡◌, List, ◌∷◌, length, map, ℤ}
use Rattle.qc_model.specs.Holds.{rows}
use Rattle.qc_model.specs.Lists.{Among}
use Rattle.qc_model.specs.Refuted.{left_to}
use Rattle.prop_element.specs.Tables.{IsLowestRow, IsHighestRow}
use Rattle.prop_element.proofs.tables.end_rows.Given as goal

abbrev pub invariant-loop-row : goal.invariant-loop-row
invariant-loop-row l = record {
  low_width : length l.low ≡ length l.items;
  high_width : length l.high ≡ length l.items;
  lowest : IsLowestRow (map (left_to l.store.box) l.items) (l.first ∷ rows (length l.items) l.numbers) l.k l.low (rows (length l.items) l.rest);
  highest : IsHighestRow (map (left_to l.store.box) l.items) (l.first ∷ rows (length l.items) l.numbers) l.k l.high (rows (length l.items) l.rest);
  sub : (row : List ℤ) → Among row (rows (length l.items) l.rest) → Among row (l.first ∷ rows (length l.items) l.numbers);
}

abbrev pub decreases-loop-row : goal.decreases-loop-row
decreases-loop-row l = length l.rest
