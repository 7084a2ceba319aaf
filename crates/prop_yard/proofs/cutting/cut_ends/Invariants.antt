use Rattle.std.proofs.Common.{◌≡◌, length}
use Rattle.prop_yard.proofs.cutting.cut_ends.Given as goal

abbrev pub invariant-loop : goal.invariant-loop
invariant-loop l = length l.store.box ≡ length l.fn.store.box
