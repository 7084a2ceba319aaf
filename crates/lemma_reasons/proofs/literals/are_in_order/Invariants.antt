use Rattle.std.proofs.Common.{◌≡◌, length}
use Rattle.lemma_list.specs.Literals.{are_in_order}
use Rattle.lemma_reasons.proofs.literals.are_in_order.Given as goal

abbrev pub invariant-loop-rest : goal.invariant-loop-rest
invariant-loop-rest l = are_in_order l.rest ≡ are_in_order l.literals

abbrev pub decreases-loop-rest : goal.decreases-loop-rest
decreases-loop-rest l = length l.rest
