use Rattle.std.proofs.Common.{◌∙◌, subst, sym, ◌≤ℤ◌}
use Rattle.fd_interval.specs.Quotients.{quotient_by_sign, least_positive}
use Rattle.fd_interval.proofs.ProductSteps.{back_is, back_within}
use Rattle.fd_interval.proofs.Coded.{at_least_one, above_one, back_above, back_ordered, near_within}
use Rattle.fd_interval.proofs.Quotients.{quotients_ordered}
use Rattle.fd_interval.proofs.division.by_positive.Goals as goal

pub quotient-requires-clause-negative_case : goal.quotient-requires-clause-negative_case
quotient-requires-clause-negative_case c =
    let least = at_least_one c.args.b.lo c.max-least.result c.args.b.lo_within c.max-least.ensures.value in
    back_above c.max-least.result least.0 (above_one c.args.b.lo c.max-least.result least.1)

pub quotient-requires-clause-other_case : goal.quotient-requires-clause-other_case
quotient-requires-clause-other_case c = back_above c.args.b.hi c.args.b.hi_within c.requires.some

pub quotient-requires-2-clause-negative_case : goal.quotient-requires-2-clause-negative_case
quotient-requires-2-clause-negative_case c = back_above c.args.b.hi c.args.b.hi_within c.requires.some

pub quotient-requires-2-clause-other_case : goal.quotient-requires-2-clause-other_case
quotient-requires-2-clause-other_case c =
    let least = at_least_one c.args.b.lo c.max-least.result c.args.b.lo_within c.max-least.ensures.value in
    back_above c.max-least.result least.0 (above_one c.args.b.lo c.max-least.result least.1)

pub span_of-requires-clause-ordered : goal.span_of-requires-clause-ordered
span_of-requires-clause-ordered c =
    let least = at_least_one c.args.b.lo c.max-least.result c.args.b.lo_within c.max-least.ensures.value in
    let lo = c.quotient.ensures.value ∙ (λ i. quotient_by_sign (back_is c.args.a.lo c.args.a.lo_within i) ((back_is c.max-least.result least.0 ∙ least.1) i) (back_is c.args.b.hi c.args.b.hi_within i)) in
    let hi = c.quotient-2.ensures.value ∙ (λ i. quotient_by_sign (back_is c.args.a.hi c.args.a.hi_within i) (back_is c.args.b.hi c.args.b.hi_within i) ((back_is c.max-least.result least.0 ∙ least.1) i)) in
    let h = quotients_ordered c.args.a c.args.b record { no_negative = c.requires.no_negative; some = c.requires.some } in
    back_ordered c.quotient.result c.quotient-2.result
    (near_within c.args.a.lo c.quotient.result c.args.a.lo_within c.quotient.ensures.smaller)
    (near_within c.args.a.hi c.quotient-2.result c.args.a.hi_within c.quotient-2.ensures.smaller)
    (subst (λ n. n ≤ℤ c.quotient-2.result) (sym lo) (subst (λ n. quotient_by_sign c.args.a.lo (least_positive c.args.b) c.args.b.hi ≤ℤ n) (sym hi) h))

pub span_of-requires-clause-lo_within : goal.span_of-requires-clause-lo_within
span_of-requires-clause-lo_within c = back_within c.quotient.result (near_within c.args.a.lo c.quotient.result c.args.a.lo_within c.quotient.ensures.smaller)

pub span_of-requires-clause-hi_within : goal.span_of-requires-clause-hi_within
span_of-requires-clause-hi_within c = back_within c.quotient-2.result (near_within c.args.a.hi c.quotient-2.result c.args.a.hi_within c.quotient-2.ensures.smaller)

pub returns-clause-lo : goal.returns-clause-lo
returns-clause-lo c =
    let least = at_least_one c.args.b.lo c.max-least.result c.args.b.lo_within c.max-least.ensures.value in
    c.span_of.ensures.lo ∙ back_is c.quotient.result (near_within c.args.a.lo c.quotient.result c.args.a.lo_within c.quotient.ensures.smaller) ∙ c.quotient.ensures.value
    ∙ (λ i. quotient_by_sign (back_is c.args.a.lo c.args.a.lo_within i) ((back_is c.max-least.result least.0 ∙ least.1) i) (back_is c.args.b.hi c.args.b.hi_within i))

pub returns-clause-hi : goal.returns-clause-hi
returns-clause-hi c =
    let least = at_least_one c.args.b.lo c.max-least.result c.args.b.lo_within c.max-least.ensures.value in
    c.span_of.ensures.hi ∙ back_is c.quotient-2.result (near_within c.args.a.hi c.quotient-2.result c.args.a.hi_within c.quotient-2.ensures.smaller) ∙ c.quotient-2.ensures.value
    ∙ (λ i. quotient_by_sign (back_is c.args.a.hi c.args.a.hi_within i) (back_is c.args.b.hi c.args.b.hi_within i) ((back_is c.max-least.result least.0 ∙ least.1) i))
