use Rattle.qc_model.specs.Domains.{misses}
use Rattle.prop_compare.proofs.Reducing.{reduces_none, reduces_some}
use Rattle.prop_compare.proofs.engines.equal.Goals as goal

pub keep_ranges-requires-clause-none : goal.keep_ranges-requires-clause-none
keep_ranges-requires-clause-none c =
    reduces_none c.args.asked.rule.now c.args.store.now.box c.args.a c.args.b misses c.equal_ranges-keep.result c.requires.tested c.equal_ranges-keep.ensures.none

pub keep_ranges-requires-clause-some : goal.keep_ranges-requires-clause-some
keep_ranges-requires-clause-some c =
    reduces_some c.args.asked.problem.now c.args.asked.rule.now c.args.store.now.box c.args.a c.args.b misses c.equal_ranges-keep.result c.requires.pair c.requires.tested c.equal_ranges-keep.ensures.some
