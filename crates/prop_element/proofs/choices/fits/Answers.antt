use Rattle.std.proofs.Common.{◌∙◌}
use Rattle.prop_element.specs.Choices.{item_fits, IsLeastMet}
use Rattle.prop_element.proofs.ChosenItems.{some_exactly}
use Rattle.prop_element.proofs.choices.fits.Goals as goal

pub returns : goal.returns
returns c = c.is_some.ensures ∙ some_exactly c.met_at.result (item_fits c.args.store.now.box c.args.a c.args.items.now c.args.r c.args.k) (IsLeastMet c.args.store.now.box c.args.a c.args.items.now c.args.r c.args.k) c.met_at.ensures.none c.met_at.ensures.some (λ v m. m.fits)
