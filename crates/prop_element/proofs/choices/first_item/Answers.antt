use Rattle.prop_element.specs.Choices.{item_fits}
use Rattle.prop_element.proofs.Sets.{one_more}
use Rattle.prop_element.proofs.ChosenItems.{place_gone, no_item}
use Rattle.prop_element.proofs.choices.first_item.Goals as goal

pub loop-k-init : goal.loop-k-init
loop-k-init c j h = place_gone c.args.store.now.box c.args.a c.args.items.now c.args.r j (c.places_before-from.ensures j h)

pub loop-k-preserved : goal.loop-k-preserved
loop-k-preserved c = one_more (item_fits c.args.store.now.box c.args.a c.args.items.now c.args.r) c.loop-k.k c.loop-k.invariant c.in_default.ensures.none

pub returns-clause-none : goal.returns-clause-none
returns-clause-none c = no_item c.args.store.now.box c.args.a c.args.items.now c.args.r c.loop-k.k c.places_up_to-until.result c.loop-k.invariant c.loop-k-test.false c.places_up_to-until.ensures.none
