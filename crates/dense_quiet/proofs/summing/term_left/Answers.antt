use Rattle.std.proofs.Common.{◌≡◌, ◌∙◌, [], ◌∷◌, rules, subst, sym, ap, true}
use Rattle.std.proofs.lemmas.Int.{to_z-of_z}
use mir.Val.{SFits}
use mir.Syntax.{w64}
use Rattle.qc_model.specs.Domains.{values_left, least_value, greatest_value}
use Rattle.qc_model.specs.Ranges.{range_of}
use Rattle.qc_model.specs.Refuted.{left_to}
use Rattle.qc_model.specs.Valid.{is_number}
use Rattle.qc_refuter.specs.Met.{is_open}
use Rattle.qc_refuter.proofs.Terms.{term_range, least_small, greatest_small, some_left}
use Rattle.dense_quiet.proofs.SumWalk.{term_one}
use Rattle.dense_quiet.proofs.summing.term_left.Goals as goal

pub product-requires-clause-b : goal.product-requires-clause-b
product-requires-clause-b c =
    let f : SFits w64 c.min.result = search rules in
    let o = subst (λ a. is_open c.args.store.now.box a ≡ true) c.in-Var.is c.requires.open in
    simp to_z-of_z (subst (λ z. is_number z ≡ true) (sym c.min.ensures) (least_small (values_left c.args.store.now.box c.in-Var.x.0) o))

pub product-requires-in-Var-clause-b : goal.product-requires-in-Var-clause-b
product-requires-in-Var-clause-b c =
    let f : SFits w64 c.max.result = search rules in
    let o = subst (λ a. is_open c.args.store.now.box a ≡ true) c.in-Var.is c.requires.open in
    simp to_z-of_z (subst (λ z. is_number z ≡ true) (sym c.max.ensures) (greatest_small (values_left c.args.store.now.box c.in-Var.x.0) o))

pub returns-in-Var-clause-value : goal.returns-in-Var-clause-value
returns-in-Var-clause-value c =
    let n_fits : SFits w64 c.args.factor = search rules in
    let u_fits : SFits w64 c.min.result = search rules in
    let v_fits : SFits w64 c.max.result = search rules in
    let p_fits : SFits w64 c.product.result = search rules in
    let q_fits : SFits w64 c.product-in-Var.result = search rules in
    let from_fits : SFits w64 c.ordered.result.from = search rules in
    let to_fits : SFits w64 c.ordered.result.to = search rules in
    let d = left_to c.args.store.now.box c.args.item in
    let low = c.min.ensures ∙ ap (λ a. least_value (left_to c.args.store.now.box a)) (sym c.in-Var.is) in
    let high = c.max.ensures ∙ ap (λ a. greatest_value (left_to c.args.store.now.box a)) (sym c.in-Var.is) in
    let p = simp to_z-of_z at c.product.ensures.value in
    let q = simp to_z-of_z at c.product-in-Var.ensures.value in
    let e = simp to_z-of_z at c.ordered.ensures.value in
    term_range c.args.factor c.min.result c.max.result c.product.result c.product-in-Var.result (range_of c.ordered.result.from c.ordered.result.to) d low high p q e

pub ordered-requires-clause-p : goal.ordered-requires-clause-p
ordered-requires-clause-p c =
    let fits : SFits w64 c.product.result = record { sfits = c.product.type_inv } in
    simp to_z-of_z c.product.ensures.small

pub ordered-requires-clause-q : goal.ordered-requires-clause-q
ordered-requires-clause-q c =
    let fits : SFits w64 c.product-in-Var.result = record { sfits = c.product-in-Var.type_inv } in
    simp to_z-of_z c.product-in-Var.ensures.small

pub returns-in-Num-clause-small_from : goal.returns-in-Num-clause-small_from
returns-in-Num-clause-small_from c =
    let fits : SFits w64 c.product-only.result = record { sfits = c.product-only.type_inv } in
    simp to_z-of_z c.product-only.ensures.small

pub returns-in-Num-clause-small_to : goal.returns-in-Num-clause-small_to
returns-in-Num-clause-small_to c =
    let fits : SFits w64 c.product-only.result = record { sfits = c.product-only.type_inv } in
    simp to_z-of_z c.product-only.ensures.small

pub product-only-requires-clause-a : goal.product-only-requires-clause-a
product-only-requires-clause-a c =
    let fits : SFits w64 c.args.factor = c.ranges.factor in
    simp to_z-of_z c.requires.factor

pub product-requires-clause-a : goal.product-requires-clause-a
product-requires-clause-a c =
    let fits : SFits w64 c.args.factor = c.ranges.factor in
    simp to_z-of_z c.requires.factor

pub product-requires-in-Var-clause-a : goal.product-requires-in-Var-clause-a
product-requires-in-Var-clause-a c =
    let fits : SFits w64 c.args.factor = c.ranges.factor in
    simp to_z-of_z c.requires.factor

pub min-requires-clause-left : goal.min-requires-clause-left
min-requires-clause-left c =
    some_left (values_left c.args.store.now.box c.in-Var.x.0) (subst (λ a. is_open c.args.store.now.box a ≡ true) c.in-Var.is c.requires.open)

pub max-requires-clause-left : goal.max-requires-clause-left
max-requires-clause-left c =
    some_left (values_left c.args.store.now.box c.in-Var.x.0) (subst (λ a. is_open c.args.store.now.box a ≡ true) c.in-Var.is c.requires.open)

pub product-only-requires-clause-b : goal.product-only-requires-clause-b
product-only-requires-clause-b c =
    let fits : SFits w64 c.in-Num.n = search rules in
    simp to_z-of_z (least_small (c.in-Num.n ∷ []) (subst (λ a. is_open c.args.store.now.box a ≡ true) c.in-Num.is c.requires.open))

pub returns-in-Num-clause-value : goal.returns-in-Num-clause-value
returns-in-Num-clause-value c =
    let f_fits : SFits w64 c.args.factor = c.ranges.factor in
    let n_fits : SFits w64 c.in-Num.n = search rules in
    let p_fits : SFits w64 c.product-only.result = record { sfits = c.product-only.type_inv } in
    let value = simp to_z-of_z at c.product-only.ensures.value in
    simp to_z-of_z (term_one c.args.factor c.in-Num.n c.product-only.result (left_to c.args.store.now.box c.args.item) (ap (left_to c.args.store.now.box) c.in-Num.is) value)

pub returns-in-Var-clause-small_from : goal.returns-in-Var-clause-small_from
returns-in-Var-clause-small_from c = c.ordered.ensures.small_from

pub returns-in-Var-clause-small_to : goal.returns-in-Var-clause-small_to
returns-in-Var-clause-small_to c = c.ordered.ensures.small_to
