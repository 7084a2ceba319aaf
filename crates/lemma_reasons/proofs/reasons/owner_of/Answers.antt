use Rattle.std.proofs.Common.{arith}
use Rattle.lemma_reasons.proofs.Standing.{owner_below}
use Rattle.lemma_reasons.proofs.reasons.owner_of.Goals as goal

pub returns-clause-within : goal.returns-clause-within
returns-clause-within c =
    let below = owner_below _ c.args.problem.now.constraints c.args.c.0 c.constraint.result.now c.known.ensures.constraint_order c.constraint.ensures in
    omega arith
