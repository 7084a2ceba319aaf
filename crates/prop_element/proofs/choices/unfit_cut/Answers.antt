use Rattle.prop_element.proofs.ChosenItems.{none_refuted}
use Rattle.prop_element.proofs.choices.unfit_cut.Goals as goal

pub whole_cut-requires-clause-refuted : goal.whole_cut-requires-clause-refuted
whole_cut-requires-clause-refuted c = none_refuted c.args.rule.now c.args.store.now.box c.args.a c.args.items.now c.args.r c.requires.choice c.requires.unfit

pub any_cut-requires-clause-refuted : goal.any_cut-requires-clause-refuted
any_cut-requires-clause-refuted c = none_refuted c.args.rule.now c.args.store.now.box c.args.a c.args.items.now c.args.r c.requires.choice c.requires.unfit
