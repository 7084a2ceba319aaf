use Rattle.std.proofs.Common.{◌≡◌, ◌+◌, drop, length}
use Rattle.qdimacs.specs.Table.{filled_from, filled}
use Rattle.qdimacs.proofs.draft.places.Given as goal

abbrev pub invariant-loop-place : goal.invariant-loop-place
invariant-loop-place l = (filled_from l.table.items l.most l.place (drop l.place l.order) ≡ filled l.most 0 l.order) × (length l.table.items ≡ l.most + 1)
