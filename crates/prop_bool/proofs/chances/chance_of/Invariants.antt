use Rattle.std.proofs.Common.{take}
use Rattle.prop_bool.specs.Findings.{IsChance}
use Rattle.prop_bool.specs.Literals.{literals}
use Rattle.prop_bool.proofs.chances.chance_of.Given as goal

abbrev pub invariant-loop-k : goal.invariant-loop-k
invariant-loop-k l = IsChance l.chance l.store.box (take l.k (literals l.plain l.negated))
