use Rattle.std.proofs.Common.{◌∙◌, int_rem}
use Rattle.fd_interval.proofs.ProductSteps.{back, back_is, back_within}
use Rattle.fd_interval.proofs.Coded.{itself, rem_within}
use Rattle.fd_interval.proofs.division.only_remainder.Goals as goal

pub span_of-requires-clause-ordered : goal.span_of-requires-clause-ordered
span_of-requires-clause-ordered c = itself (back (int_rem (back c.args.a.lo) (back c.args.b.lo)))

pub span_of-requires-clause-lo_within : goal.span_of-requires-clause-lo_within
span_of-requires-clause-lo_within c =
    back_within (int_rem (back c.args.a.lo) (back c.args.b.lo)) (rem_within (back c.args.a.lo) (back c.args.b.lo) (back_within c.args.a.lo c.args.a.lo_within))

pub span_of-requires-clause-hi_within : goal.span_of-requires-clause-hi_within
span_of-requires-clause-hi_within c = span_of-requires-clause-lo_within c

pub returns-clause-lo : goal.returns-clause-lo
returns-clause-lo c =
    let only = int_rem (back c.args.a.lo) (back c.args.b.lo) in
    let within = rem_within (back c.args.a.lo) (back c.args.b.lo) (back_within c.args.a.lo c.args.a.lo_within) in
    c.span_of.ensures.lo ∙ back_is only within ∙ (λ i. int_rem (back_is c.args.a.lo c.args.a.lo_within i) (back_is c.args.b.lo c.args.b.lo_within i))

pub returns-clause-hi : goal.returns-clause-hi
returns-clause-hi c =
    let only = int_rem (back c.args.a.lo) (back c.args.b.lo) in
    let within = rem_within (back c.args.a.lo) (back c.args.b.lo) (back_within c.args.a.lo c.args.a.lo_within) in
    c.span_of.ensures.hi ∙ back_is only within ∙ (λ i. int_rem (back_is c.args.a.lo c.args.a.lo_within i) (back_is c.args.b.lo c.args.b.lo_within i))
