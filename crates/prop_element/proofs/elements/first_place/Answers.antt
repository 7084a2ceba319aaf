use Rattle.std.proofs.Common.{◌∙◌, sym}
use Rattle.qc_model.specs.Refuted.{left_to}
use Rattle.prop_element.specs.Elements.{place_fits}
use Rattle.prop_element.proofs.Sets.{one_more}
use Rattle.prop_element.proofs.Supports.{unfit_before, no_place}
use Rattle.prop_element.proofs.elements.first_place.Goals as goal

pub loop-k-init : goal.loop-k-init
loop-k-init c = unfit_before (left_to c.args.store.now.box c.args.a) c.args.numbers.now (left_to c.args.store.now.box c.args.r) c.places_before-from.result c.places_before-from.ensures

pub loop-k-preserved : goal.loop-k-preserved
loop-k-preserved c = one_more (place_fits (left_to c.args.store.now.box c.args.a) c.args.numbers.now (left_to c.args.store.now.box c.args.r)) c.loop-k.k c.loop-k.invariant (sym c.fits.ensures ∙ c.if-fits.false)

pub returns-clause-none : goal.returns-clause-none
returns-clause-none c = no_place (left_to c.args.store.now.box c.args.a) c.args.numbers.now (left_to c.args.store.now.box c.args.r) c.loop-k.k c.places_up_to-until.result c.loop-k.invariant c.loop-k-test.false c.places_up_to-until.ensures.none
