use Rattle.std.proofs.Common.{◌≤◌, length}
use Rattle.dense_close.proofs.memories.Memories.made_by.Given as goal

abbrev pub invariant-loop-used : goal.invariant-loop-used
invariant-loop-used l = l.used ≤ length l.self-inside.kept.items

abbrev pub decreases-loop-used : goal.decreases-loop-used
decreases-loop-used l = l.used
