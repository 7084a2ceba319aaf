use Rattle.prop_element.proofs.Moved.{open_item}
use Rattle.prop_element.proofs.least.is_alone.Goals as goal

pub least-requires : goal.least-requires
least-requires c = open_item c.args.store.now.box c.args.items.now c.loop-k.k c.requires.open c.loop-k-test.true
