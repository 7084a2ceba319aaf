use Rattle.std.proofs.Common.{◌∙◌}
use Rattle.fd_interval.proofs.ProductSteps.{back_is, back_within}
use Rattle.fd_interval.proofs.Coded.{back_ordered, farther, nearest, nearest_ordered}
use Rattle.fd_interval.proofs.Sums.{lo_is, hi_is, absolute_is_least}
use Rattle.fd_interval.proofs.arithmetic.abs.Goals as goal

pub span_of-requires-clause-ordered : goal.span_of-requires-clause-ordered
span_of-requires-clause-ordered c =
    let near = nearest c.args.a.lo c.args.a.hi c.max.result c.max-2.result c.args.a.lo_within c.args.a.hi_within c.max.ensures.value c.max-2.ensures.value in
    let far = farther c.args.a.lo c.args.a.hi c.max-3.result c.args.a.lo_within c.args.a.hi_within c.max-3.ensures.value in
    back_ordered c.max-2.result c.max-3.result near.0 far.0 (nearest_ordered c.args.a.lo c.args.a.hi c.max-2.result c.max-3.result c.args.a.ordered near.1 far.1)

pub span_of-requires-clause-lo_within : goal.span_of-requires-clause-lo_within
span_of-requires-clause-lo_within c =
    let near = nearest c.args.a.lo c.args.a.hi c.max.result c.max-2.result c.args.a.lo_within c.args.a.hi_within c.max.ensures.value c.max-2.ensures.value in
    back_within c.max-2.result near.0

pub span_of-requires-clause-hi_within : goal.span_of-requires-clause-hi_within
span_of-requires-clause-hi_within c =
    let far = farther c.args.a.lo c.args.a.hi c.max-3.result c.args.a.lo_within c.args.a.hi_within c.max-3.ensures.value in
    back_within c.max-3.result far.0

pub returns-clause-lo : goal.returns-clause-lo
returns-clause-lo c =
    let near = nearest c.args.a.lo c.args.a.hi c.max.result c.max-2.result c.args.a.lo_within c.args.a.hi_within c.max.ensures.value c.max-2.ensures.value in
    lo_is c.args.a c.span_of.result.lo (c.span_of.ensures.lo ∙ back_is c.max-2.result near.0 ∙ near.1)

pub returns-clause-hi : goal.returns-clause-hi
returns-clause-hi c =
    let far = farther c.args.a.lo c.args.a.hi c.max-3.result c.args.a.lo_within c.args.a.hi_within c.max-3.ensures.value in
    hi_is c.args.a c.span_of.result.hi (c.span_of.ensures.hi ∙ back_is c.max-3.result far.0 ∙ far.1)

pub returns-clause-least : goal.returns-clause-least
returns-clause-least c = absolute_is_least c.args.a c.span_of.result (returns-clause-lo c) (returns-clause-hi c)
