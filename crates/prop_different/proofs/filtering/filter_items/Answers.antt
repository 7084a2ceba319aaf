use Rattle.std.proofs.Common.{refl, ap}
use Rattle.std.specs.List.{list_all}
use Rattle.prop_base.specs.Closed.{keeps_at}
use Rattle.prop_base.proofs.Whole.{all_seen}
use Rattle.prop_different.proofs.filtering.filter_items.Goals as goal

pub last_variable-requires : goal.last_variable-requires
last_variable-requires c = all_seen c.args.asked.problem.now c.args.asked.rule.now c.args.store.now.box c.requires.fits

pub returns-in_default-clause-answer : goal.returns-in_default-clause-answer
returns-in_default-clause-answer c =
    let box = c.args.store.now.box in
    (c.requires.fits.full, refl, ap (list_all (keeps_at c.args.asked.rule.now box)) c.in_default.ensures.none)
