use Rattle.std.proofs.Common.{◌∙◌, sym, length, arith}
use Rattle.prop_element.specs.Choices.{item_fits}
use Rattle.prop_element.proofs.Sets.{one_before}
use Rattle.prop_element.proofs.ChosenItems.{place_gone}
use Rattle.prop_element.proofs.choices.last_item.Goals as goal

pub loop-k-init : goal.loop-k-init
loop-k-init c = record {
  most = c.places_up_to-k.ensures.most;
  none = λ j h l. place_gone c.args.store.now.box c.args.a c.args.items.now c.args.r j (c.places_up_to-k.ensures.none j h l);
}

pub loop-k-preserved : goal.loop-k-preserved
loop-k-preserved c =
    let m = c.loop-k.invariant.most in
    record {
      most = omega (arith, m);
      none = one_before (item_fits c.args.store.now.box c.args.a c.args.items.now c.args.r) c.loop-k.k (length c.args.items.now) c.loop-k.invariant.none (sym c.fits.ensures ∙ c.if-fits.false);
    }
