use Rattle.std.proofs.Common.{◌∙◌, sym, refl}
use Rattle.prop_compare.proofs.Told.{loose_keeps}
use Rattle.prop_compare.proofs.reified.settle.Goals as goal

pub returns-clause-answer : goal.returns-clause-answer
returns-clause-answer c = (
  c.requires.fits.full,
  refl,
  loose_keeps c.args.asked.problem.now c.args.asked.rule.now c.args.store.now.box c.args.comparison c.args.a c.args.b c.args.x c.requires.telling c.requires.both (sym c.is_refuted.ensures ∙ c.if-is_refuted.false) (sym c.is_entailed.ensures ∙ c.if-is_entailed.false),
)
