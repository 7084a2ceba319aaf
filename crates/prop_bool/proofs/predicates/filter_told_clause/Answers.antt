use Rattle.std.proofs.Common.{List, subst, sym, ap, ◌∙◌, ◌≤◌, ◌+◌, length}
use Rattle.qc_model.specs.declared.problem.Arg.{Arg}
use Rattle.model_arguments.specs.Written.{args_at, last_arg}
use Rattle.prop_bool.specs.Literals.{IsDisjunction, literals, plain}
use Rattle.prop_bool.proofs.Clauses.{told_says, told_few}
use Rattle.prop_bool.proofs.predicates.filter_told_clause.Goals as goal

pub filter_disjunction-requires-clause-says : goal.filter_disjunction-requires-clause-says
filter_disjunction-requires-clause-says c =
    let g = c.args.asked.problem.now in
    let r = c.args.asked.rule.now in
    let xs = c.items_at-plain.ensures ∙ ap (λ a. args_at a 0) c.arguments-args.ensures in
    let ys = c.items_at-negated.ensures ∙ ap (λ a. args_at a 1) c.arguments-args.ensures in
    let h = c.last_one.ensures ∙ ap last_arg c.arguments-args.ensures in
    let A : List Arg → Type 0 = λ z. IsDisjunction g r (literals z c.items_at-negated.result.now) (plain c.last_one.result) in
    let B : List Arg → Type 0 = λ z. IsDisjunction g r (literals (args_at r.args 0) z) (plain c.last_one.result) in
    let H : Arg → Type 0 = λ z. IsDisjunction g r (literals (args_at r.args 0) (args_at r.args 1)) (plain z) in
    subst A (sym xs) (subst B (sym ys) (subst H (sym h) (told_says g r c.args.store.now.box c.requires.fits c.requires.meaning)))

pub filter_disjunction-requires-clause-few : goal.filter_disjunction-requires-clause-few
filter_disjunction-requires-clause-few c =
    let g = c.args.asked.problem.now in
    let r = c.args.asked.rule.now in
    let xs = c.items_at-plain.ensures ∙ ap (λ a. args_at a 0) c.arguments-args.ensures in
    let ys = c.items_at-negated.ensures ∙ ap (λ a. args_at a 1) c.arguments-args.ensures in
    let A : List Arg → Type 0 = λ z. length z + length c.items_at-negated.result.now ≤ 2000 in
    let B : List Arg → Type 0 = λ z. length (args_at r.args 0) + length z ≤ 2000 in
    subst A (sym xs) (subst B (sym ys) (told_few g r c.args.store.now.box c.requires.fits c.requires.meaning))
