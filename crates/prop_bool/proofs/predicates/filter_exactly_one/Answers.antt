use Rattle.std.proofs.Common.{[], ◌∷◌, false, ◌∙◌, sym, ap, subst}
use Rattle.qc_model.specs.declared.problem.Arg.{Arg}
use Rattle.model_arguments.specs.Written.{arg_at}
use Rattle.prop_bool.specs.Parities.{IsParity}
use Rattle.prop_bool.proofs.Xors.{exactly_one_says}
use Rattle.prop_bool.proofs.predicates.filter_exactly_one.Goals as goal

pub filter_parity-requires-clause-says : goal.filter_parity-requires-clause-says
filter_parity-requires-clause-says c =
    let g = c.args.asked.problem.now in
    let r = c.args.asked.rule.now in
    let x = c.one_at.ensures ∙ ap (λ a. arg_at a 0) c.arguments-args.ensures in
    let y = c.one_at-2.ensures ∙ ap (λ a. arg_at a 1) c.arguments-args.ensures in
    let h = c.one_at-3.ensures ∙ ap (λ a. arg_at a 2) c.arguments-args.ensures in
    let X : Arg → Type 0 = λ z. IsParity g r (z ∷ c.one_at-2.result ∷ c.one_at-3.result ∷ []) false in
    let Y : Arg → Type 0 = λ z. IsParity g r (arg_at r.args 0 ∷ z ∷ c.one_at-3.result ∷ []) false in
    let H : Arg → Type 0 = λ z. IsParity g r (arg_at r.args 0 ∷ arg_at r.args 1 ∷ z ∷ []) false in
    subst X (sym x) (subst Y (sym y) (subst H (sym h) (exactly_one_says g r c.args.store.now.box c.requires.fits c.requires.meaning)))
