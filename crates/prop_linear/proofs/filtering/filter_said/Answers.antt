use Rattle.std.proofs.Common.{◌∙◌, ◌≤◌, sym, ap, subst, rules, length, List, ℤ}
use Rattle.std.specs.List.{list_all}
use Rattle.std.proofs.lemmas.Int.{to_z-of_z}
use mir.Val.{SFits}
use mir.Syntax.{w64}
use Rattle.qc_model.specs.declared.problem.Arg.{Arg}
use Rattle.qc_model.specs.Valid.{arg_sees, is_number}
use Rattle.model_arguments.specs.Written.{arg_at, args_at, ints_at}
use Rattle.qc_refuter.specs.Met.{is_open}
use Rattle.prop_linear.specs.declared.relation.Demand.{Demand}
use Rattle.prop_linear.specs.Demands.{demand_of, IsDemanded}
use Rattle.prop_linear.proofs.Shapes.{sum_paired, sum_open, sum_literal, sum_numbers, sum_few, sum_sees}
use Rattle.prop_linear.proofs.ToldSums.{said_linear, said_demanded}
use Rattle.prop_linear.proofs.filtering.filter_said.Goals as goal

pub filter_demanded-requires-clause-demanded : goal.filter_demanded-requires-clause-demanded
filter_demanded-requires-clause-demanded c =
    let n_fits : SFits w64 c.in-Num.bound = search rules in
    let r = c.args.asked.rule.now in
    let box = c.args.store.now.box in
    let l = ap (λ a. arg_at a 2) (sym c.arguments-args.ensures) ∙ sym c.in-Num.ensures in
    let ns = c.numbers_at-factors.ensures ∙ ap (λ a. ints_at a 0) c.arguments-args.ensures in
    let xs = c.items_at-items.ensures ∙ ap (λ a. args_at a 1) c.arguments-args.ensures in
    let d = demand_of c.args.relation c.args.holds in
    let A : List ℤ → Type 0 = λ z. IsDemanded d r box z c.items_at-items.result.now c.in-Num.bound in
    let B : List Arg → Type 0 = λ z. IsDemanded d r box (ints_at r.args 0) z c.in-Num.bound in
    let D : Demand → Type 0 = λ z. IsDemanded z r box c.numbers_at-factors.result.now c.items_at-items.result.now c.in-Num.bound in
    simp to_z-of_z (subst D (sym c.demanded-demand.ensures) (subst A (sym ns) (subst B (sym xs) (said_demanded c.args.asked.problem.now.variables r box c.in-Num.bound c.args.relation c.args.holds c.requires.fits.rule c.requires.said l))))

pub filter_demanded-requires-clause-bound : goal.filter_demanded-requires-clause-bound
filter_demanded-requires-clause-bound c =
    let n_fits : SFits w64 c.in-Num.bound = search rules in
    let r = c.args.asked.rule.now in
    let l = ap (λ a. arg_at a 2) (sym c.arguments-args.ensures) ∙ sym c.in-Num.ensures in
    simp to_z-of_z (sum_literal c.args.asked.problem.now.variables r c.in-Num.bound c.requires.fits.rule (said_linear r c.args.store.now.box c.args.relation c.args.holds c.requires.said) l)

pub filter_demanded-requires-clause-equal : goal.filter_demanded-requires-clause-equal
filter_demanded-requires-clause-equal c =
    let r = c.args.asked.rule.now in
    let ns = c.numbers_at-factors.ensures ∙ ap (λ a. ints_at a 0) c.arguments-args.ensures in
    let xs = c.items_at-items.ensures ∙ ap (λ a. args_at a 1) c.arguments-args.ensures in
    ap length ns ∙ (sum_paired c.args.asked.problem.now.variables r c.requires.fits.rule (said_linear r c.args.store.now.box c.args.relation c.args.holds c.requires.said) ∙ sym (ap length xs))

pub filter_demanded-requires-clause-few : goal.filter_demanded-requires-clause-few
filter_demanded-requires-clause-few c =
    let r = c.args.asked.rule.now in
    let xs = c.items_at-items.ensures ∙ ap (λ a. args_at a 1) c.arguments-args.ensures in
    let F : List Arg → Type 0 = λ z. length z ≤ 1000 in
    subst F (sym xs) (sum_few c.args.asked.problem.now.variables r c.requires.fits.rule (said_linear r c.args.store.now.box c.args.relation c.args.holds c.requires.said))

pub filter_demanded-requires-clause-factors : goal.filter_demanded-requires-clause-factors
filter_demanded-requires-clause-factors c =
    let r = c.args.asked.rule.now in
    let ns = c.numbers_at-factors.ensures ∙ ap (λ a. ints_at a 0) c.arguments-args.ensures in
    ap (list_all is_number) ns ∙ sum_numbers c.args.asked.problem.now.variables r c.requires.fits.rule (said_linear r c.args.store.now.box c.args.relation c.args.holds c.requires.said)

pub filter_demanded-requires-clause-sees : goal.filter_demanded-requires-clause-sees
filter_demanded-requires-clause-sees c =
    let r = c.args.asked.rule.now in
    let xs = c.items_at-items.ensures ∙ ap (λ a. args_at a 1) c.arguments-args.ensures in
    ap (list_all (arg_sees c.args.asked.problem.now.variables r.owner.0)) xs ∙ sum_sees c.args.asked.problem.now.variables r c.requires.fits.rule (said_linear r c.args.store.now.box c.args.relation c.args.holds c.requires.said)

pub filter_demanded-requires-clause-open : goal.filter_demanded-requires-clause-open
filter_demanded-requires-clause-open c =
    let r = c.args.asked.rule.now in
    let box = c.args.store.now.box in
    let xs = c.items_at-items.ensures ∙ ap (λ a. args_at a 1) c.arguments-args.ensures in
    ap (list_all (is_open box)) xs ∙ sum_open c.args.asked.problem.now r box c.known.ensures.domains c.requires.fits (said_linear r box c.args.relation c.args.holds c.requires.said)
