use Rattle.std.proofs.Common.{List, true, ◌∙◌, sym, ap, subst}
use Rattle.qc_model.specs.declared.problem.Arg.{Arg}
use Rattle.model_arguments.specs.Written.{args_at}
use Rattle.prop_bool.specs.Parities.{IsParity}
use Rattle.prop_bool.proofs.Xors.{odd_items_say}
use Rattle.prop_bool.proofs.predicates.filter_odd_items.Goals as goal

pub filter_parity-requires-clause-says : goal.filter_parity-requires-clause-says
filter_parity-requires-clause-says c =
    let g = c.args.asked.problem.now in
    let r = c.args.asked.rule.now in
    let xs = c.items_at-items.ensures ∙ ap (λ a. args_at a 0) c.arguments.ensures in
    let A : List Arg → Type 0 = λ z. IsParity g r z true in
    subst A (sym xs) (odd_items_say g r c.args.store.now.box c.requires.fits c.requires.meaning)
