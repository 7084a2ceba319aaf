use Rattle.std.proofs.Common.{arith}
use Rattle.lemma_reasons.proofs.Standing.{scope_below}
use Rattle.lemma_reasons.proofs.places.after_scope.Goals as goal

pub returns-in-Some-clause-within : goal.returns-in-Some-clause-within
returns-in-Some-clause-within c =
    let below = scope_below _ c.args.problem.now.variables c.args.x.0 c.in-Some.variable.now c.known.ensures.variable_order c.in-Some.ensures in
    omega arith
