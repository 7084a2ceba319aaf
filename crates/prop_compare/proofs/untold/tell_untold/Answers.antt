use Rattle.std.proofs.Common.{◌∙◌, sym, refl}
use Rattle.prop_compare.proofs.Settled.{untold_keeps}
use Rattle.prop_compare.proofs.untold.tell_untold.Goals as goal

pub returns-clause-open : goal.returns-clause-open
returns-clause-open c = λ e. (
  refl,
  untold_keeps c.args.asked.rule.now c.args.store.now.box c.args.x c.requires.fits.full c.requires.both c.requires.none (sym c.can_not_tell.ensures ∙ c.if-can_not_tell.false) (sym c.can_not_tell-2.ensures ∙ c.if-can_not_tell-2.false),
)
