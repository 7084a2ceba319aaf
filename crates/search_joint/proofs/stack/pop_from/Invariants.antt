use Rattle.std.proofs.Common.{length}
use Rattle.search_joint.specs.Stacked.{IsFront}
use Rattle.search_joint.proofs.stack.pop_from.Given as goal

abbrev pub invariant-loop-i : goal.invariant-loop-i
invariant-loop-i l = IsFront l.entries.items l.initial.entries.items

abbrev pub decreases-loop-i : goal.decreases-loop-i
decreases-loop-i l = length l.entries.items
