use Rattle.std.proofs.Common.{◌≡◌, drop}
use Rattle.lemma_list.specs.Literals.{meets}
use Rattle.lemma_reasons.proofs.literals.meets.Given as goal

abbrev pub invariant-loop-literal : goal.invariant-loop-literal
invariant-loop-literal l = meets (drop l.literal-index l.literals) l.x.0 l.v ≡ meets l.literals l.x.0 l.v
