use Rattle.std.proofs.Common.{ℕ, ◌<◌, [], map, get_or}
use Rattle.qc_model.specs.Refuted.{left_to}
use Rattle.prop_different.specs.Different.{IsLeftAlone}
use Rattle.prop_different.proofs.walk.items_cut.Given as goal

abbrev pub invariant-loop-k : goal.invariant-loop-k
invariant-loop-k l =
    (j : ℕ) → j < l.k → IsLeftAlone (map (left_to l.store.box) l.items) l.fn.low (get_or (map (left_to l.store.box) l.items) j [])
