use Rattle.std.proofs.Common.{[], ◌∷◌, ◌∙◌, sym, ap, subst}
use Rattle.qc_model.specs.declared.problem.Arg.{Arg}
use Rattle.model_arguments.specs.Written.{arg_at}
use Rattle.prop_bool.specs.Literals.{IsDisjunction, literals, plain}
use Rattle.prop_bool.proofs.Junctions.{either_says}
use Rattle.prop_bool.proofs.predicates.filter_either.Goals as goal

pub filter_disjunction-requires-clause-says : goal.filter_disjunction-requires-clause-says
filter_disjunction-requires-clause-says c =
    let g = c.args.asked.problem.now in
    let r = c.args.asked.rule.now in
    let x = c.one_at.ensures ∙ ap (λ a. arg_at a 0) c.arguments-args.ensures in
    let y = c.one_at-2.ensures ∙ ap (λ a. arg_at a 1) c.arguments-args.ensures in
    let h = c.one_at-3.ensures ∙ ap (λ a. arg_at a 2) c.arguments-args.ensures in
    let X : Arg → Type 0 = λ z. IsDisjunction g r (literals (z ∷ c.one_at-2.result ∷ []) []) (plain c.one_at-3.result) in
    let Y : Arg → Type 0 = λ z. IsDisjunction g r (literals (arg_at r.args 0 ∷ z ∷ []) []) (plain c.one_at-3.result) in
    let H : Arg → Type 0 = λ z. IsDisjunction g r (literals (arg_at r.args 0 ∷ arg_at r.args 1 ∷ []) []) (plain z) in
    subst X (sym x) (subst Y (sym y) (subst H (sym h) (either_says g r c.args.store.now.box c.requires.fits c.requires.meaning)))
