use Rattle.std.proofs.Common.{rules}
use Rattle.std.proofs.lemmas.Int.{to_z-of_z}
use mir.Val.{SFits}
use mir.Syntax.{w64}
use Rattle.prop_compare.specs.Compared.{is_over}
use Rattle.prop_compare.proofs.Reducing.{reduces_none, reduces_some}
use Rattle.prop_compare.proofs.engines.ordered.Goals as goal

pub keep_ranges-requires-clause-none : goal.keep_ranges-requires-clause-none
keep_ranges-requires-clause-none c =
    let gap_fits : SFits w64 c.args.gap = search rules in
    reduces_none c.args.asked.rule.now c.args.store.now.box c.args.a c.args.b (is_over c.args.gap) c.ordered_ranges-keep.result c.requires.tested (simp to_z-of_z at c.ordered_ranges-keep.ensures.none)

pub keep_ranges-requires-clause-some : goal.keep_ranges-requires-clause-some
keep_ranges-requires-clause-some c =
    let gap_fits : SFits w64 c.args.gap = search rules in
    reduces_some c.args.asked.problem.now c.args.asked.rule.now c.args.store.now.box c.args.a c.args.b (is_over c.args.gap) c.ordered_ranges-keep.result c.requires.pair c.requires.tested (simp to_z-of_z at c.ordered_ranges-keep.ensures.some)
