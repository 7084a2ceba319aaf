use Rattle.qc_refuter.proofs.Results.{product_within, lo_small, hi_small}
use Rattle.qc_refuter.proofs.spans.product_misses.Goals as goal

pub mul-requires-clause-lo_lo_within : goal.mul-requires-clause-lo_lo_within
mul-requires-clause-lo_lo_within c = product_within c.args.a.lo c.args.b.lo (lo_small c.args.a c.requires.a) (lo_small c.args.b c.requires.b)

pub mul-requires-clause-lo_hi_within : goal.mul-requires-clause-lo_hi_within
mul-requires-clause-lo_hi_within c = product_within c.args.a.lo c.args.b.hi (lo_small c.args.a c.requires.a) (hi_small c.args.b c.requires.b)

pub mul-requires-clause-hi_lo_within : goal.mul-requires-clause-hi_lo_within
mul-requires-clause-hi_lo_within c = product_within c.args.a.hi c.args.b.lo (hi_small c.args.a c.requires.a) (lo_small c.args.b c.requires.b)

pub mul-requires-clause-hi_hi_within : goal.mul-requires-clause-hi_hi_within
mul-requires-clause-hi_hi_within c = product_within c.args.a.hi c.args.b.hi (hi_small c.args.a c.requires.a) (hi_small c.args.b c.requires.b)
