use Rattle.std.proofs.Common.{◌≡◌, ◌∙◌, ◌+◌, ◌==◌, sym, ap, subst, rules, arith, true, ℕ, ℤ}
use Rattle.std.specs.Prelude.{pos, ◌+ℤ◌, ◌≤ℤ◌}
use Rattle.std.proofs.lemmas.Int.{to_z-of_z}
use Rattle.std.proofs.lemmas.Bool.Decides.{nat_tests}
use mir.Val.{SFits}
use mir.Syntax.{w64}
use Rattle.qc_model.specs.Domains.{values_left, least_value, greatest_value}
use Rattle.qc_model.specs.Valid.{is_number}
use Rattle.model_arguments.proofs.Kept.{ordered}
use Rattle.model_arguments.proofs.Values.{has_least, has_greatest, value_passes}
use Rattle.dense_alike.proofs.Filled.{row_is}
use Rattle.dense_alike.proofs.runs.is_row.Goals as goal

is_same : (a b : ℕ) → (a == b) ≡ true → a ≡ b
is_same a b e = grind (arith, nat_tests)

pub width-requires-clause-low : goal.width-requires-clause-low
width-requires-clause-low c =
    let d = values_left c.args.store.now.box c.args.x.0 in
    let fits : SFits w64 c.min.result = search rules in
    simp to_z-of_z (subst (λ (v : ℤ). is_number v ≡ true) (sym c.min.ensures) (value_passes is_number d (least_value d) c.known.ensures.numbers (has_least d c.requires.left)))

pub width-requires-clause-high : goal.width-requires-clause-high
width-requires-clause-high c =
    let d = values_left c.args.store.now.box c.args.x.0 in
    let fits : SFits w64 c.max.result = search rules in
    simp to_z-of_z (subst (λ (v : ℤ). is_number v ≡ true) (sym c.max.ensures) (value_passes is_number d (greatest_value d) c.known.ensures.numbers (has_greatest d c.requires.left)))

pub width-requires-clause-order : goal.width-requires-clause-order
width-requires-clause-order c =
    let d = values_left c.args.store.now.box c.args.x.0 in
    let low_fits : SFits w64 c.min.result = search rules in
    let high_fits : SFits w64 c.max.result = search rules in
    simp to_z-of_z (subst (λ (v : ℤ). c.min.result ≤ℤ v) (sym c.max.ensures) (subst (λ (v : ℤ). v ≤ℤ greatest_value d) (sym c.min.ensures) (ordered d c.requires.left)))

pub returns : goal.returns
returns c =
    let d = values_left c.args.store.now.box c.args.x.0 in
    let low_fits : SFits w64 c.min.result = search rules in
    let high_fits : SFits w64 c.max.result = search rules in
    let value : (c.min.result +ℤ pos c.width.result) ≡ c.max.result = simp to_z-of_z at c.width.ensures.value in
    let reached : (least_value d +ℤ pos c.width.result) ≡ greatest_value d = ap (λ v. v +ℤ pos c.width.result) (sym c.min.ensures) ∙ (value ∙ c.max.ensures) in
    λ e. row_is d c.width.result c.known.ensures.ascending reached (is_same (c.width.result + 1) c.size.result e ∙ c.size.ensures)
