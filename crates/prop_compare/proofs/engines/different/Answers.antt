use Rattle.std.proofs.Common.{◌∙◌, sym, refl}
use Rattle.qc_model.specs.Refuted.{left_to}
use Rattle.prop_compare.proofs.Losing.{swapped, tested_swapped, unfixed_keeps}
use Rattle.prop_compare.proofs.Sides.{alike_same, pair_flipped}
use Rattle.prop_compare.proofs.engines.different.Goals as goal

pub empty_last-requires-clause-refuted : goal.empty_last-requires-clause-refuted
empty_last-requires-clause-refuted c =
    let box = c.args.store.now.box in
    c.requires.tested box (alike_same c.args.a c.args.b box) ∙ (sym c.are_one.ensures ∙ c.if-are_one.true)

pub lose_value-requires-clause-fixed : goal.lose_value-requires-clause-fixed
lose_value-requires-clause-fixed c = sym c.is_fixed.ensures ∙ c.if-is_fixed.true

pub lose_value-requires-clause-differ : goal.lose_value-requires-clause-differ
lose_value-requires-clause-differ c = sym c.are_one.ensures ∙ c.if-are_one.false

pub lose_value-requires-then-is_fixed-2-clause-pair : goal.lose_value-requires-then-is_fixed-2-clause-pair
lose_value-requires-then-is_fixed-2-clause-pair c = pair_flipped c.args.asked.problem.now c.args.asked.rule.now c.args.store.now.box c.args.a c.args.b c.requires.pair

pub lose_value-requires-then-is_fixed-2-clause-tested : goal.lose_value-requires-then-is_fixed-2-clause-tested
lose_value-requires-then-is_fixed-2-clause-tested c = tested_swapped c.args.asked.rule.now c.args.store.now.box c.args.a c.args.b c.requires.tested

pub lose_value-requires-then-is_fixed-2-clause-fixed : goal.lose_value-requires-then-is_fixed-2-clause-fixed
lose_value-requires-then-is_fixed-2-clause-fixed c = sym c.is_fixed-2.ensures ∙ c.if-is_fixed-2.true

pub lose_value-requires-then-is_fixed-2-clause-differ : goal.lose_value-requires-then-is_fixed-2-clause-differ
lose_value-requires-then-is_fixed-2-clause-differ c =
    let box = c.args.store.now.box in
    swapped (left_to box c.args.b) (left_to box c.args.a) ∙ (sym c.are_one.ensures ∙ c.if-are_one.false)

pub returns-clause-answer : goal.returns-clause-answer
returns-clause-answer c =
    let box = c.args.store.now.box in (
      c.requires.fits.full,
      refl,
      unfixed_keeps c.args.asked.problem.now c.args.asked.rule.now box c.args.a c.args.b c.requires.pair c.requires.tested (sym c.is_fixed.ensures ∙ c.if-is_fixed.false) (sym c.is_fixed-2.ensures ∙ c.if-is_fixed-2.false),
    )
