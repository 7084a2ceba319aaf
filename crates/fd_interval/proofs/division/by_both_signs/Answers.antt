use Rattle.std.proofs.Common.{◌∙◌, ap, subst, sym, neg_ℤ, ◌≤ℤ◌}
use Rattle.fd_interval.proofs.ProductSteps.{back, back_is, back_within}
use Rattle.fd_interval.proofs.Coded.{farther, farther_ordered, negated_fits, coded_negated}
use Rattle.fd_interval.proofs.division.by_both_signs.Goals as goal

pub overflow_sub-a : goal.overflow_sub-a
overflow_sub-a c = negated_fits c.args.a.lo c.args.a.lo_within

pub overflow_sub-far : goal.overflow_sub-far
overflow_sub-far c =
    let far = farther c.args.a.lo c.args.a.hi c.max-far.result c.args.a.lo_within c.args.a.hi_within c.max-far.ensures.value in
    negated_fits c.max-far.result far.0

pub span_of-requires-clause-ordered : goal.span_of-requires-clause-ordered
span_of-requires-clause-ordered c =
    let far = farther c.args.a.lo c.args.a.hi c.max-far.result c.args.a.lo_within c.args.a.hi_within c.max-far.ensures.value in
    let down = coded_negated c.max-far.result far.0 in
    subst (λ n. n ≤ℤ back c.max-far.result) (sym down.1) (subst (λ n. neg_ℤ c.max-far.result ≤ℤ n) (sym (back_is c.max-far.result far.0)) (farther_ordered c.args.a.lo c.args.a.hi c.max-far.result c.args.a.ordered far.1))

pub span_of-requires-clause-lo_within : goal.span_of-requires-clause-lo_within
span_of-requires-clause-lo_within c =
    let far = farther c.args.a.lo c.args.a.hi c.max-far.result c.args.a.lo_within c.args.a.hi_within c.max-far.ensures.value in
    (coded_negated c.max-far.result far.0).0

pub span_of-requires-clause-hi_within : goal.span_of-requires-clause-hi_within
span_of-requires-clause-hi_within c =
    let far = farther c.args.a.lo c.args.a.hi c.max-far.result c.args.a.lo_within c.args.a.hi_within c.max-far.ensures.value in
    back_within c.max-far.result far.0

pub returns-clause-lo : goal.returns-clause-lo
returns-clause-lo c =
    let far = farther c.args.a.lo c.args.a.hi c.max-far.result c.args.a.lo_within c.args.a.hi_within c.max-far.ensures.value in
    c.span_of.ensures.lo ∙ (coded_negated c.max-far.result far.0).1 ∙ ap neg_ℤ far.1

pub returns-clause-hi : goal.returns-clause-hi
returns-clause-hi c =
    let far = farther c.args.a.lo c.args.a.hi c.max-far.result c.args.a.lo_within c.args.a.hi_within c.max-far.ensures.value in
    c.span_of.ensures.hi ∙ back_is c.max-far.result far.0 ∙ far.1
