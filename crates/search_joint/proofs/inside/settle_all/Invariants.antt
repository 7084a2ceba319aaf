use Rattle.search_joint.proofs.Settling.{IsSettling}
use Rattle.search_joint.proofs.inside.settle_all.Given as goal

abbrev pub invariant-loop-at : goal.invariant-loop-at
invariant-loop-at l = IsSettling l.at l.changed.items l.initial.store l.store l.within.box
