use Rattle.std.proofs.Common.{ℕ, ℤ, ◌<◌, List, get_or}
use Rattle.qc_model.specs.Domains.{Values}
use Rattle.dense_quiet.specs.declared.differing.Ends.{Ends}
use Rattle.dense_quiet.specs.Differing.{StandsFor, AreEndsOf, IsLeftAlone, AreRooms}
use Rattle.dense_quiet.proofs.differing.first_room.Given as goal

abbrev pub invariant-loop-k : goal.invariant-loop-k
invariant-loop-k l = (j : ℕ) → j < l.k → (z : Ends) (ds : List Values) (v : ℤ) (d : Values) → StandsFor l.fn.low v → AreEndsOf d (get_or l.ends j z) → AreRooms ds v l.rooms l.fn.last → IsLeftAlone ds v d
