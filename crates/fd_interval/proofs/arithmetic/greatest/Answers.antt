use Rattle.std.proofs.Common.{◌∙◌, arith}
use Rattle.std.proofs.lemmas.Int.{ints, clamps}
use Rattle.fd_interval.proofs.Coded.{greater}
use Rattle.fd_interval.proofs.Sums.{greater_is_least}
use Rattle.fd_interval.proofs.arithmetic.greatest.Goals as goal

pub span_of-requires-clause-ordered : goal.span_of-requires-clause-ordered
span_of-requires-clause-ordered c = omega (arith, ints, clamps, c.args.a.ordered, c.args.b.ordered)

pub span_of-requires-clause-lo_within : goal.span_of-requires-clause-lo_within
span_of-requires-clause-lo_within c = (greater c.args.a.lo c.args.b.lo c.max.result c.args.a.lo_within c.args.b.lo_within c.max.ensures.value).0

pub span_of-requires-clause-hi_within : goal.span_of-requires-clause-hi_within
span_of-requires-clause-hi_within c = (greater c.args.a.hi c.args.b.hi c.max-2.result c.args.a.hi_within c.args.b.hi_within c.max-2.ensures.value).0

pub returns-clause-lo : goal.returns-clause-lo
returns-clause-lo c = c.span_of.ensures.lo ∙ (greater c.args.a.lo c.args.b.lo c.max.result c.args.a.lo_within c.args.b.lo_within c.max.ensures.value).1

pub returns-clause-hi : goal.returns-clause-hi
returns-clause-hi c = c.span_of.ensures.hi ∙ (greater c.args.a.hi c.args.b.hi c.max-2.result c.args.a.hi_within c.args.b.hi_within c.max-2.ensures.value).1

pub returns-clause-least : goal.returns-clause-least
returns-clause-least c = greater_is_least c.args.a c.args.b c.span_of.result (returns-clause-lo c) (returns-clause-hi c)
