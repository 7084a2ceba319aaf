use Rattle.std.proofs.Common.{◌≡◌, true, subst, sym, ap, ◌∙◌, refl, ◌&&◌}
use Rattle.std.specs.List.{list_all}
use Rattle.std.proofs.lemmas.List.Recursion.{and_at}
use Rattle.qc_model.specs.Meaning.{meaning_of}
use Rattle.qc_model.specs.Signature.{arg_kinds_of}
use Rattle.qc_model.specs.Valid.{argument_sees, are_of_sorts, have_lengths}
use Rattle.qc_model.proofs.Readable.{second}
use Rattle.prop_base.specs.Closed.{keeps_argument}
use Rattle.prop_base.proofs.Walked.{more_pass, all_pass}
use Rattle.prop_base.proofs.ends.find_cut.Goals as goal

pub argument_cut-requires-clause-sees : goal.argument_cut-requires-clause-sees
argument_cut-requires-clause-sees g c =
    let r = c.args.rule.now in
    let xs = c.args.problem.now.variables in
    let sees = argument_sees xs r.owner.0 in
    let all = second (are_of_sorts xs (arg_kinds_of r.pred) r.args && have_lengths (meaning_of r.pred) r.args) (list_all sees r.args) c.requires.asked.rule in
    let items = c.arguments-argument-items.result.now in
    let here : list_all sees items ≡ true = ap (list_all sees) c.arguments-argument-items.ensures ∙ all in
    subst (λ a. sees a ≡ true) (sym c.argument-item.is) (and_at (list_all sees) sees refl (λ _ _. refl) items c.loop-argument.argument-index c.argument-item.result c.loop-argument-test.true here)

pub loop-argument-preserved : goal.loop-argument-preserved
loop-argument-preserved g c =
    let keeps = keeps_argument c.args.rule.now c.args.store.now.box in
    let items = c.arguments-argument-items.result.now in
    let here = subst (λ a. keeps a ≡ true) c.argument-item.is c.in_default.ensures.none in
    more_pass keeps items c.loop-argument.argument-index c.argument-item.result c.loop-argument-test.true c.loop-argument.invariant here

pub returns-clause-none : goal.returns-clause-none
returns-clause-none g c =
    let keeps = keeps_argument c.args.rule.now c.args.store.now.box in
    let items = c.arguments-argument-items.result.now in
    sym (ap (list_all keeps) c.arguments-argument-items.ensures) ∙ all_pass keeps items c.loop-argument.argument-index c.loop-argument-test.false c.loop-argument.invariant
