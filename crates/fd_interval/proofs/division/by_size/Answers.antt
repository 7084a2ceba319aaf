use mir.Syntax.{w128}
use Rattle.std.proofs.Common.{◌∙◌}
use Rattle.std.proofs.lemmas.Int.{to_z-of_z}
use Rattle.fd_interval.specs.Remainders.{lower_end, upper_end}
use Rattle.fd_interval.proofs.ProductSteps.{back_is, back_within}
use Rattle.fd_interval.proofs.Coded.{around, back_ordered, near_within}
use Rattle.fd_interval.proofs.division.by_size.Goals as goal

pub span_of-requires-clause-ordered : goal.span_of-requires-clause-ordered
span_of-requires-clause-ordered c = back_ordered c.least_remainder.result c.greatest_remainder.result
    (near_within c.args.a.lo c.least_remainder.result c.args.a.lo_within c.least_remainder.ensures.smaller)
    (near_within c.args.a.hi c.greatest_remainder.result c.args.a.hi_within c.greatest_remainder.ensures.smaller)
    (around c.least_remainder.result c.greatest_remainder.result c.least_remainder.ensures.not_positive c.greatest_remainder.ensures.not_negative)

pub span_of-requires-clause-lo_within : goal.span_of-requires-clause-lo_within
span_of-requires-clause-lo_within c = back_within c.least_remainder.result (near_within c.args.a.lo c.least_remainder.result c.args.a.lo_within c.least_remainder.ensures.smaller)

pub span_of-requires-clause-hi_within : goal.span_of-requires-clause-hi_within
span_of-requires-clause-hi_within c = back_within c.greatest_remainder.result (near_within c.args.a.hi c.greatest_remainder.result c.args.a.hi_within c.greatest_remainder.ensures.smaller)

pub returns-clause-lo : goal.returns-clause-lo
returns-clause-lo c =
    let far = to_z-of_z w128 c.farthest_remainder-far.result record { sfits = c.farthest_remainder-far.type_inv } ∙ c.farthest_remainder-far.ensures.value in
    c.span_of.ensures.lo ∙ back_is c.least_remainder.result (near_within c.args.a.lo c.least_remainder.result c.args.a.lo_within c.least_remainder.ensures.smaller) ∙ c.least_remainder.ensures.value
    ∙ (λ i. lower_end (back_is c.args.a.lo c.args.a.lo_within i) (far i))

pub returns-clause-hi : goal.returns-clause-hi
returns-clause-hi c =
    let far = to_z-of_z w128 c.farthest_remainder-far.result record { sfits = c.farthest_remainder-far.type_inv } ∙ c.farthest_remainder-far.ensures.value in
    c.span_of.ensures.hi ∙ back_is c.greatest_remainder.result (near_within c.args.a.hi c.greatest_remainder.result c.args.a.hi_within c.greatest_remainder.ensures.smaller) ∙ c.greatest_remainder.ensures.value
    ∙ (λ i. upper_end (back_is c.args.a.hi c.args.a.hi_within i) (far i))
