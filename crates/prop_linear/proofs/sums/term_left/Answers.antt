use Rattle.std.proofs.Common.{◌≡◌, ◌∙◌, rules, subst, sym, ap, true}
use Rattle.std.proofs.lemmas.Int.{to_z-of_z}
use mir.Val.{SFits}
use mir.Syntax.{w64}
use Rattle.qc_model.specs.Domains.{values_left, least_value, greatest_value}
use Rattle.qc_model.specs.Ranges.{range_of}
use Rattle.qc_model.specs.Refuted.{left_to}
use Rattle.qc_model.specs.Valid.{is_number}
use Rattle.qc_refuter.specs.Met.{is_open}
use Rattle.qc_refuter.proofs.Terms.{term_range, least_small, greatest_small}
use Rattle.prop_compare.proofs.Sides.{open_place}
use Rattle.prop_linear.proofs.sums.term_left.Goals as goal

pub product-requires-clause-b : goal.product-requires-clause-b
product-requires-clause-b c =
    let f : SFits w64 c.min.result = search rules in
    let o = subst (λ a. is_open c.args.store.now.box a ≡ true) c.in-Var.is c.requires.open in
    simp to_z-of_z (subst (λ z. is_number z ≡ true) (sym c.min.ensures) (least_small (values_left c.args.store.now.box c.in-Var.x.0) o))

pub product-requires-in-Var-clause-b : goal.product-requires-in-Var-clause-b
product-requires-in-Var-clause-b c =
    let f : SFits w64 c.max.result = search rules in
    let o = subst (λ a. is_open c.args.store.now.box a ≡ true) c.in-Var.is c.requires.open in
    simp to_z-of_z (subst (λ z. is_number z ≡ true) (sym c.max.ensures) (greatest_small (values_left c.args.store.now.box c.in-Var.x.0) o))

pub returns-in-Var-clause-value : goal.returns-in-Var-clause-value
returns-in-Var-clause-value c =
    let n_fits : SFits w64 c.args.factor = search rules in
    let u_fits : SFits w64 c.min.result = search rules in
    let v_fits : SFits w64 c.max.result = search rules in
    let p_fits : SFits w64 c.product.result = search rules in
    let q_fits : SFits w64 c.product-in-Var.result = search rules in
    let from_fits : SFits w64 c.ordered.result.from = search rules in
    let to_fits : SFits w64 c.ordered.result.to = search rules in
    let d = left_to c.args.store.now.box c.args.item in
    let low = c.min.ensures ∙ ap (λ a. least_value (left_to c.args.store.now.box a)) (sym c.in-Var.is) in
    let high = c.max.ensures ∙ ap (λ a. greatest_value (left_to c.args.store.now.box a)) (sym c.in-Var.is) in
    let p = simp to_z-of_z at c.product.ensures.value in
    let q = simp to_z-of_z at c.product-in-Var.ensures.value in
    let e = simp to_z-of_z at c.ordered.ensures.value in
    term_range c.args.factor c.min.result c.max.result c.product.result c.product-in-Var.result (range_of c.ordered.result.from c.ordered.result.to) d low high p q e

pub min-requires-clause-var : goal.min-requires-clause-var
min-requires-clause-var c = open_place c.args.store.now.box c.in-Var.x (subst (λ a. is_open c.args.store.now.box a ≡ true) c.in-Var.is c.requires.open)

pub max-requires-clause-var : goal.max-requires-clause-var
max-requires-clause-var c = open_place c.args.store.now.box c.in-Var.x (subst (λ a. is_open c.args.store.now.box a ≡ true) c.in-Var.is c.requires.open)
