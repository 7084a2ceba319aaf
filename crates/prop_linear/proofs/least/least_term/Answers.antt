use Rattle.std.proofs.Common.{◌≡◌, ◌∙◌, rules, subst, sym, ap, true}
use Rattle.std.specs.Prelude.{◌*ℤ◌}
use Rattle.std.proofs.lemmas.Int.{to_z-of_z}
use mir.Val.{SFits}
use mir.Syntax.{w64}
use Rattle.qc_model.specs.Domains.{values_left, least_value, greatest_value}
use Rattle.qc_model.specs.Refuted.{left_to}
use Rattle.qc_model.specs.Valid.{is_number}
use Rattle.qc_refuter.specs.Met.{is_open}
use Rattle.qc_refuter.proofs.Terms.{least_small, greatest_small}
use Rattle.prop_linear.proofs.Lows.{rising_term, falling_term}
use Rattle.prop_compare.proofs.Sides.{open_place}
use Rattle.prop_linear.proofs.least.least_term.Goals as goal

pub product-requires-then-factor-lt0-clause-b : goal.product-requires-then-factor-lt0-clause-b
product-requires-then-factor-lt0-clause-b c =
    let f : SFits w64 c.max.result = search rules in
    let o = subst (λ a. is_open c.args.store.now.box a ≡ true) c.in-Var.is c.requires.open in
    simp to_z-of_z (subst (λ z. is_number z ≡ true) (sym c.max.ensures) (greatest_small (values_left c.args.store.now.box c.in-Var.x.0) o))

pub product-requires-in-Var-clause-b : goal.product-requires-in-Var-clause-b
product-requires-in-Var-clause-b c =
    let f : SFits w64 c.min.result = search rules in
    let o = subst (λ a. is_open c.args.store.now.box a ≡ true) c.in-Var.is c.requires.open in
    simp to_z-of_z (subst (λ z. is_number z ≡ true) (sym c.min.ensures) (least_small (values_left c.args.store.now.box c.in-Var.x.0) o))

pub returns-then-factor-lt0-clause-value : goal.returns-then-factor-lt0-clause-value
returns-then-factor-lt0-clause-value c =
    let n_fits : SFits w64 c.args.factor = search rules in
    let v_fits : SFits w64 c.max.result = search rules in
    let p_fits : SFits w64 c.product-then-factor-lt0.result = search rules in
    let box = c.args.store.now.box in
    let falls = simp to_z-of_z at c.if-factor-lt0.true in
    let end = c.max.ensures ∙ ap (λ a. greatest_value (left_to box a)) (sym c.in-Var.is) in
    let p = simp to_z-of_z at c.product-then-factor-lt0.ensures.value in
    simp to_z-of_z (p ∙ (ap (λ z. c.args.factor *ℤ z) end ∙ falling_term c.args.factor (left_to box c.args.item) falls))

pub returns-else-factor-lt0-clause-value : goal.returns-else-factor-lt0-clause-value
returns-else-factor-lt0-clause-value c =
    let n_fits : SFits w64 c.args.factor = search rules in
    let v_fits : SFits w64 c.min.result = search rules in
    let p_fits : SFits w64 c.product-in-Var.result = search rules in
    let box = c.args.store.now.box in
    let rises = simp to_z-of_z at c.if-factor-lt0.false in
    let end = c.min.ensures ∙ ap (λ a. least_value (left_to box a)) (sym c.in-Var.is) in
    let p = simp to_z-of_z at c.product-in-Var.ensures.value in
    simp to_z-of_z (p ∙ (ap (λ z. c.args.factor *ℤ z) end ∙ rising_term c.args.factor (left_to box c.args.item) rises))

pub min-requires-clause-var : goal.min-requires-clause-var
min-requires-clause-var c = open_place c.args.store.now.box c.in-Var.x (subst (λ a. is_open c.args.store.now.box a ≡ true) c.in-Var.is c.requires.open)

pub max-requires-clause-var : goal.max-requires-clause-var
max-requires-clause-var c = open_place c.args.store.now.box c.in-Var.x (subst (λ a. is_open c.args.store.now.box a ≡ true) c.in-Var.is c.requires.open)
