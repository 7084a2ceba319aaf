use Rattle.std.proofs.Common.{◌∙◌, sym, length, arith}
use Rattle.qc_model.specs.Refuted.{left_to}
use Rattle.prop_element.specs.Elements.{place_fits}
use Rattle.prop_element.proofs.Sets.{one_before}
use Rattle.prop_element.proofs.Supports.{unfit_from}
use Rattle.prop_element.proofs.elements.last_place.Goals as goal

pub loop-k-init : goal.loop-k-init
loop-k-init c = record {
  most = c.places_up_to-k.ensures.most;
  none = unfit_from (left_to c.args.store.now.box c.args.a) c.args.numbers.now (left_to c.args.store.now.box c.args.r) (length c.args.numbers.now) c.places_up_to-k.result c.places_up_to-k.ensures.none;
}

pub loop-k-preserved : goal.loop-k-preserved
loop-k-preserved c =
    let m = c.loop-k.invariant.most in
    record {
      most = omega (arith, m);
      none = one_before (place_fits (left_to c.args.store.now.box c.args.a) c.args.numbers.now (left_to c.args.store.now.box c.args.r)) c.loop-k.k (length c.args.numbers.now) c.loop-k.invariant.none (sym c.fits.ensures ∙ c.if-fits.false);
    }
