use Rattle.std.proofs.Common.{◌∙◌, ◌-ℤ◌, pos, neg_ℤ}
use Rattle.fd_interval.proofs.ProductSteps.{back}
use Rattle.fd_interval.proofs.Coded.{ordered_as, negated_fits, coded_negated, negated_ordered}
use Rattle.fd_interval.proofs.division.opposite.Goals as goal

pub overflow_sub-a : goal.overflow_sub-a
overflow_sub-a c = negated_fits c.args.a.hi c.args.a.hi_within

pub overflow_sub-a-2 : goal.overflow_sub-a-2
overflow_sub-a-2 c = negated_fits c.args.a.lo c.args.a.lo_within

pub span_of-requires-clause-ordered : goal.span_of-requires-clause-ordered
span_of-requires-clause-ordered c =
    let lo = coded_negated c.args.a.hi c.args.a.hi_within in
    let hi = coded_negated c.args.a.lo c.args.a.lo_within in
    ordered_as (back (pos 0 -ℤ back c.args.a.hi)) (back (pos 0 -ℤ back c.args.a.lo)) (neg_ℤ c.args.a.hi) (neg_ℤ c.args.a.lo) lo.1 hi.1 (negated_ordered c.args.a.lo c.args.a.hi c.args.a.ordered)

pub span_of-requires-clause-lo_within : goal.span_of-requires-clause-lo_within
span_of-requires-clause-lo_within c = (coded_negated c.args.a.hi c.args.a.hi_within).0

pub span_of-requires-clause-hi_within : goal.span_of-requires-clause-hi_within
span_of-requires-clause-hi_within c = (coded_negated c.args.a.lo c.args.a.lo_within).0

pub returns-clause-lo : goal.returns-clause-lo
returns-clause-lo c = c.span_of.ensures.lo ∙ (coded_negated c.args.a.hi c.args.a.hi_within).1

pub returns-clause-hi : goal.returns-clause-hi
returns-clause-hi c = c.span_of.ensures.hi ∙ (coded_negated c.args.a.lo c.args.a.lo_within).1
