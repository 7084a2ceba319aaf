use Rattle.std.proofs.Common.{ℕ, ◌<◌, [], map, get_or}
use Rattle.qc_model.specs.Refuted.{left_to}
use Rattle.dense_quiet.specs.declared.differing.Ends.{Ends}
use Rattle.dense_quiet.specs.Differing.{AreEndsOf}
use Rattle.dense_quiet.proofs.differing.read_ends.Given as goal

abbrev pub invariant-loop-k : goal.invariant-loop-k
invariant-loop-k l = (j : ℕ) (e : Ends) → j < l.k → AreEndsOf (get_or (map (left_to l.store.box) l.items) j []) (get_or l.ends j e)
