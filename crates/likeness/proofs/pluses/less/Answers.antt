use Rattle.likeness.proofs.Doubled.{sum_fits, less_fits, left_is}
use Rattle.likeness.proofs.pluses.less.Goals as goal

pub overflow_add-result : goal.overflow_add-result
overflow_add-result c = sum_fits c.args.a c.args.b c.ranges.a c.ranges.b

pub overflow_sub-result : goal.overflow_sub-result
overflow_sub-result c = less_fits c.args.a c.args.b c.args.c c.ranges.a c.ranges.b c.ranges.c

pub returns : goal.returns
returns c = left_is c.args.a c.args.b c.args.c c.ranges.a c.ranges.b c.ranges.c
