use Rattle.std.proofs.Common.{refl}
use Rattle.std.specs.List.{list_all}
use Rattle.std.proofs.lemmas.List.Recursion.{and_at}
use Rattle.qc_model.specs.declared.problem.Arg.TheVariants.{Var}
use Rattle.qc_model.specs.Valid.{arg_sees}
use Rattle.prop_base.specs.Closed.{keeps_arg}
use Rattle.prop_base.proofs.Walked.{more_pass, all_pass}
use Rattle.prop_base.proofs.ends.items_cut.Goals as goal

pub arg_cut-requires-clause-sees : goal.arg_cut-requires-clause-sees
arg_cut-requires-clause-sees g c =
    let sees = arg_sees c.args.problem.now.variables c.args.rule.now.owner.0 in
    and_at (list_all sees) sees refl (λ _ _. refl) c.args.items.now c.loop-item.item-index (Var (record { 0 = 0 })) c.loop-item-test.true c.requires.sees

pub loop-item-preserved : goal.loop-item-preserved
loop-item-preserved g c =
    more_pass (keeps_arg c.args.rule.now c.args.store.now.box) c.args.items.now c.loop-item.item-index (Var (record { 0 = 0 })) c.loop-item-test.true c.loop-item.invariant c.in_default.ensures.none

pub returns-clause-none : goal.returns-clause-none
returns-clause-none g c = all_pass (keeps_arg c.args.rule.now c.args.store.now.box) c.args.items.now c.loop-item.item-index c.loop-item-test.false c.loop-item.invariant
