use Rattle.prop_element.proofs.Moved.{open_item, more_pass}
use Rattle.std.proofs.Common.{◌∙◌, sym, ap}
use Rattle.std.specs.List.{list_all}
use Rattle.std.proofs.lemmas.List.{take_all}
use Rattle.prop_base.specs.Closed.{keeps_arg}
use Rattle.qc_model.specs.declared.problem.Arg.TheVariants.{Var}
use Rattle.prop_element.proofs.hulls.any_cut.Goals as goal

pub whole_cut-requires-in-loop-item-clause-open : goal.whole_cut-requires-in-loop-item-clause-open
whole_cut-requires-in-loop-item-clause-open c = open_item c.args.store.now.box c.args.items.now c.loop-item.item-index c.requires.open c.loop-item-test.true

pub loop-item-preserved : goal.loop-item-preserved
loop-item-preserved c =
    more_pass (keeps_arg c.args.rule.now c.args.store.now.box) c.args.items.now c.loop-item.item-index (Var (record { 0 = 0 })) c.loop-item-test.true c.loop-item.invariant c.in_default-whole_cut.ensures.none

pub returns-clause-none : goal.returns-clause-none
returns-clause-none c =
    let keeps = keeps_arg c.args.rule.now c.args.store.now.box in
    (c.in_default.ensures.none, ap (list_all keeps) (sym (take_all c.loop-item.item-index c.args.items.now c.loop-item-test.false)) ∙ c.loop-item.invariant)
