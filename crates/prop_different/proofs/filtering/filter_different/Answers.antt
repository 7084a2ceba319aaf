use Rattle.std.proofs.Common.{◌∙◌, sym, ap, subst, List}
use Rattle.qc_model.specs.declared.problem.Arg.{Arg}
use Rattle.model_arguments.specs.Written.{args_at}
use Rattle.prop_different.specs.Different.{IsDifferent}
use Rattle.model_arguments.specs.Repeats.{has_repeat}
use Rattle.prop_different.proofs.Shapes.{items_differ}
use Rattle.prop_different.proofs.filtering.filter_different.Goals as goal

pub filter_items-requires-clause-different : goal.filter_items-requires-clause-different
filter_items-requires-clause-different c =
    let g = c.args.asked.problem.now in
    let r = c.args.asked.rule.now in
    let xs = c.items_at-items.ensures ∙ ap (λ a. args_at a 0) c.arguments.ensures in
    let P : List Arg → Type 0 = λ z. IsDifferent g r z in
    subst P (sym xs) (items_differ g r c.known.ensures.domains c.requires.fits.rule c.requires.pred (ap has_repeat (sym xs) ∙ (sym c.is_repeated.ensures ∙ c.if-is_repeated.false)))
