use Rattle.std.proofs.Common.{◌∙◌, sym, ap, rules, refl}
use Rattle.std.proofs.lemmas.Int.{to_z-of_z}
use mir.Val.{SFits}
use mir.Syntax.{w64, w128}
use Rattle.qc_model.specs.declared.problem.Arg.TheVariants.{Num}
use Rattle.qc_model.specs.Ranges.{is_point}
use Rattle.std.specs.Prelude.{pos}
use Rattle.prop_linear.proofs.Alike.{alike_same}
use Rattle.prop_linear.proofs.Found.{placed}
use Rattle.prop_linear.proofs.Loose.{none_loose}
use Rattle.prop_linear.proofs.different.decide.Goals as goal

pub empty_last-requires-clause-refuted : goal.empty_last-requires-clause-refuted
empty_last-requires-clause-refuted c =
    let b_fits : SFits w64 c.args.bound = search rules in
    let f_fits : SFits w128 c.sum_extent-sum.result.from = search rules in
    let t_fits : SFits w128 c.sum_extent-sum.result.to = search rules in
    let e = simp to_z-of_z at c.is_only.ensures in
    c.requires.unequal.refuted c.args.store.now.box (alike_same c.args.items.now c.args.store.now.box) ∙ (ap (is_point c.args.bound) (sym c.sum_extent-sum.ensures.value) ∙ (sym e ∙ c.if-is_only.true))

pub returns-else-is_only-clause-answer : goal.returns-else-is_only-clause-answer
returns-else-is_only-clause-answer c =
    let b_fits : SFits w64 c.args.bound = search rules in
    let f_fits : SFits w128 c.sum_extent-sum.result.from = search rules in
    let t_fits : SFits w128 c.sum_extent-sum.result.to = search rules in
    let e = simp to_z-of_z at c.is_only.ensures in
    let r = c.args.asked.rule.now in
    let xs = c.args.items.now in
    let box = c.args.store.now.box in
    let off = ap (is_point c.args.bound) (sym c.sum_extent-sum.ensures.value) ∙ (sym e ∙ c.if-is_only.false) in
    (c.requires.fits.full, refl, none_loose r c.args.factors.now xs c.args.bound box (Num (pos 0)) c.requires.unequal c.requires.open c.requires.equal (λ j x h q. placed c.args.asked.problem.now r box xs j x (Num (pos 0)) c.requires.fits c.requires.sees h q) c.requires.tight off)
