use Rattle.std.proofs.Common.{◌∙◌, ap, subst, sym, pos, ◌-ℤ◌, ◌≤ℤ◌}
use Rattle.fd_interval.proofs.Coded.{farther, negated_fits, less_fits, less_is}
use Rattle.fd_interval.proofs.Sums.{hi_is}
use Rattle.fd_interval.proofs.Remainders.{far_above}
use Rattle.fd_interval.proofs.division.farthest_remainder.Goals as goal

pub overflow_sub-b : goal.overflow_sub-b
overflow_sub-b c = negated_fits c.args.b.lo c.args.b.lo_within

pub overflow_sub-result : goal.overflow_sub-result
overflow_sub-result c =
    let far = farther c.args.b.lo c.args.b.hi c.max.result c.args.b.lo_within c.args.b.hi_within c.max.ensures.value in
    less_fits c.max.result far.0

pub returns-clause-value : goal.returns-clause-value
returns-clause-value c =
    let far = farther c.args.b.lo c.args.b.hi c.max.result c.args.b.lo_within c.args.b.hi_within c.max.ensures.value in
    less_is c.max.result far.0 ∙ ap (λ n. n -ℤ pos 1) (hi_is c.args.b c.max.result far.1)

pub returns-clause-not_negative : goal.returns-clause-not_negative
returns-clause-not_negative c = subst (λ n. pos 0 ≤ℤ n) (sym (returns-clause-value c)) (far_above c.args.b c.requires)
