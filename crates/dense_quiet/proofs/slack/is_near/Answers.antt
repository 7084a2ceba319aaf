use Rattle.std.proofs.Common.{rules, ◌≡◌, ◌∙◌, sym, ap, subst, true}
use Rattle.std.specs.Prelude.{◌*ℤ◌, ◌+ℤ◌, ◌≤ℤ◌}
use Rattle.std.proofs.lemmas.Int.{to_z-of_z}
use mir.Val.{SFits}
use mir.Syntax.{w64}
use Rattle.qc_model.specs.Domains.{values_left, least_value, greatest_value}
use Rattle.qc_model.specs.Refuted.{left_to}
use Rattle.qc_model.specs.Valid.{is_number}
use Rattle.qc_refuter.specs.Met.{is_open}
use Rattle.qc_refuter.proofs.Terms.{least_small, greatest_small, some_left}
use Rattle.dense_quiet.proofs.Sums.{near_of}
use Rattle.dense_quiet.proofs.SumWalk.{near_one}
use Rattle.dense_quiet.proofs.slack.is_near.Goals as goal

pub product-low-requires-clause-b : goal.product-low-requires-clause-b
product-low-requires-clause-b c =
    let f : SFits w64 c.min.result = search rules in
    let o = subst (λ a. is_open c.args.store.now.box a ≡ true) c.in-Var.is c.requires.open in
    simp to_z-of_z (subst (λ z. is_number z ≡ true) (sym c.min.ensures) (least_small (values_left c.args.store.now.box c.in-Var.x.0) o))

pub product-high-requires-clause-b : goal.product-high-requires-clause-b
product-high-requires-clause-b c =
    let f : SFits w64 c.max.result = search rules in
    let o = subst (λ a. is_open c.args.store.now.box a ≡ true) c.in-Var.is c.requires.open in
    simp to_z-of_z (subst (λ z. is_number z ≡ true) (sym c.max.ensures) (greatest_small (values_left c.args.store.now.box c.in-Var.x.0) o))

pub returns-in-Var : goal.returns-in-Var
returns-in-Var c = λ t.
    let n_fits : SFits w64 c.args.factor = search rules in
    let s_fits : SFits w64 c.args.s = search rules in
    let u_fits : SFits w64 c.min.result = search rules in
    let v_fits : SFits w64 c.max.result = search rules in
    let p_fits : SFits w64 c.product-low.result = search rules in
    let q_fits : SFits w64 c.product-high.result = search rules in
    let low = c.min.ensures ∙ ap (λ a. least_value (left_to c.args.store.now.box a)) (sym c.in-Var.is) in
    let high = c.max.ensures ∙ ap (λ a. greatest_value (left_to c.args.store.now.box a)) (sym c.in-Var.is) in
    let p : c.product-low.result ≡ c.args.factor *ℤ c.min.result = simp to_z-of_z at c.product-low.ensures.value in
    let q : c.product-high.result ≡ c.args.factor *ℤ c.max.result = simp to_z-of_z at c.product-high.ensures.value in
    let up : c.product-high.result ≤ℤ (c.product-low.result +ℤ c.args.s) = simp to_z-of_z at (c.are_close.ensures.up t) in
    let down : c.product-low.result ≤ℤ (c.product-high.result +ℤ c.args.s) = simp to_z-of_z at (c.are_close.ensures.down t) in
    near_of c.args.s c.args.factor c.product-low.result c.product-high.result c.min.result c.max.result (left_to c.args.store.now.box c.args.item) p q low high up down

pub returns-in-Num : goal.returns-in-Num
returns-in-Num c = λ t. near_one c.args.s c.args.factor c.in-Num.field-0 (left_to c.args.store.now.box c.args.item) (ap (left_to c.args.store.now.box) c.in-Num.is) c.requires.room

pub are_close-requires-clause-a : goal.are_close-requires-clause-a
are_close-requires-clause-a c =
    let fits : SFits w64 c.product-low.result = record { sfits = c.product-low.type_inv } in
    simp to_z-of_z c.product-low.ensures.small

pub are_close-requires-clause-b : goal.are_close-requires-clause-b
are_close-requires-clause-b c =
    let fits : SFits w64 c.product-high.result = record { sfits = c.product-high.type_inv } in
    simp to_z-of_z c.product-high.ensures.small

pub product-low-requires-clause-a : goal.product-low-requires-clause-a
product-low-requires-clause-a c =
    let fits : SFits w64 c.args.factor = c.ranges.factor in
    simp to_z-of_z c.requires.factor

pub product-high-requires-clause-a : goal.product-high-requires-clause-a
product-high-requires-clause-a c =
    let fits : SFits w64 c.args.factor = c.ranges.factor in
    simp to_z-of_z c.requires.factor

pub min-requires-clause-left : goal.min-requires-clause-left
min-requires-clause-left c =
    some_left (values_left c.args.store.now.box c.in-Var.x.0) (subst (λ a. is_open c.args.store.now.box a ≡ true) c.in-Var.is c.requires.open)

pub max-requires-clause-left : goal.max-requires-clause-left
max-requires-clause-left c =
    some_left (values_left c.args.store.now.box c.in-Var.x.0) (subst (λ a. is_open c.args.store.now.box a ≡ true) c.in-Var.is c.requires.open)
