use Rattle.std.proofs.Common.{◌+ℤ◌, ◌∙◌}
use Rattle.fd_interval.proofs.ProductSteps.{back}
use Rattle.fd_interval.proofs.Coded.{ordered_as, sum_fits, coded_sum, sums_ordered}
use Rattle.fd_interval.proofs.Sums.{sum_is_least}
use Rattle.fd_interval.proofs.arithmetic.add.Goals as goal

pub overflow_add-a : goal.overflow_add-a
overflow_add-a c = sum_fits c.args.a.lo c.args.b.lo c.args.a.lo_within c.args.b.lo_within c.requires.lo_within

pub overflow_add-a-2 : goal.overflow_add-a-2
overflow_add-a-2 c = sum_fits c.args.a.hi c.args.b.hi c.args.a.hi_within c.args.b.hi_within c.requires.hi_within

pub span_of-requires-clause-ordered : goal.span_of-requires-clause-ordered
span_of-requires-clause-ordered c =
    let lo = coded_sum c.args.a.lo c.args.b.lo c.args.a.lo_within c.args.b.lo_within c.requires.lo_within in
    let hi = coded_sum c.args.a.hi c.args.b.hi c.args.a.hi_within c.args.b.hi_within c.requires.hi_within in
    ordered_as (back (back c.args.a.lo +ℤ back c.args.b.lo)) (back (back c.args.a.hi +ℤ back c.args.b.hi)) (c.args.a.lo +ℤ c.args.b.lo) (c.args.a.hi +ℤ c.args.b.hi) lo.1 hi.1
    (sums_ordered c.args.a.lo c.args.a.hi c.args.b.lo c.args.b.hi c.args.a.ordered c.args.b.ordered)

pub span_of-requires-clause-lo_within : goal.span_of-requires-clause-lo_within
span_of-requires-clause-lo_within c = (coded_sum c.args.a.lo c.args.b.lo c.args.a.lo_within c.args.b.lo_within c.requires.lo_within).0

pub span_of-requires-clause-hi_within : goal.span_of-requires-clause-hi_within
span_of-requires-clause-hi_within c = (coded_sum c.args.a.hi c.args.b.hi c.args.a.hi_within c.args.b.hi_within c.requires.hi_within).0

pub returns-clause-lo : goal.returns-clause-lo
returns-clause-lo c = c.span_of.ensures.lo ∙ (coded_sum c.args.a.lo c.args.b.lo c.args.a.lo_within c.args.b.lo_within c.requires.lo_within).1

pub returns-clause-hi : goal.returns-clause-hi
returns-clause-hi c = c.span_of.ensures.hi ∙ (coded_sum c.args.a.hi c.args.b.hi c.args.a.hi_within c.args.b.hi_within c.requires.hi_within).1

pub returns-clause-least : goal.returns-clause-least
returns-clause-least c = sum_is_least c.args.a c.args.b c.span_of.result (returns-clause-lo c) (returns-clause-hi c)
