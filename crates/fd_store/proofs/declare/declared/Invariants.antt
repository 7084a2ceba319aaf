use Rattle.std.proofs.Common.{◌≡◌, ◌+◌, ◌*◌, ◌≤◌, length, map, take, drop}
use Rattle.std.specs.Prelude.{sum_by}
use Rattle.fd_store.specs.Places.{box_of}
use Rattle.fd_store.specs.Sound.{IsRight}
use Rattle.fd_store.proofs.Building.{values_of, width_at}
use Rattle.fd_store.proofs.declare.declared.Given as goal

abbrev pub invariant-loop-variable : goal.invariant-loop-variable
invariant-loop-variable l = record {
  right : IsRight l.words.items l.cells.items;
  content : box_of l.words.items l.cells.items ≡ map values_of (take l.variable-index l.variables);
  room : 64 * length l.words.items + sum_by width_at (drop l.variable-index l.variables) ≤ 4194304 + 63 * l.variable-index;
}
