use Rattle.std.proofs.Common.{◌≡◌, ◌∙◌, subst, true, sym, ap, rules}
use Rattle.std.specs.Prelude.{pos, ◌-ℤ◌}
use Rattle.std.proofs.lemmas.Int.{to_z-of_z}
use mir.Val.{SFits}
use mir.Syntax.{w64}
use Rattle.qc_model.specs.Domains.{values_left}
use Rattle.qc_model.specs.Refuted.{left_to}
use Rattle.qc_refuter.specs.Met.{is_open}
use Rattle.prop_arith.specs.Greater.{misses_some}
use Rattle.prop_arith.proofs.Keeping.{fits_width, gap_read}
use Rattle.prop_arith.proofs.greater.has_gap.Goals as goal

pub overflow_sub-result : goal.overflow_sub-result
overflow_sub-result c =
    let min_fits : SFits w64 c.min.result = search rules in
    let max_fits : SFits w64 c.max.result = search rules in
    let box = c.args.store.now.box in
    let o = subst (λ a. is_open box a ≡ true) c.in-Var.is c.requires in
    simp to_z-of_z (fits_width (values_left box c.in-Var.x.0) c.max.result c.min.result o c.max.ensures c.min.ensures)

pub returns-in-Var : goal.returns-in-Var
returns-in-Var c =
    let min_fits : SFits w64 c.min.result = search rules in
    let max_fits : SFits w64 c.max.result = search rules in
    let from_fits : SFits w64 c.from.result = search rules in
    let box = c.args.store.now.box in
    let d = values_left box c.in-Var.x.0 in
    let o = subst (λ a. is_open box a ≡ true) c.in-Var.is c.requires in
    let width : SFits w64 (c.max.result -ℤ c.min.result) = fits_width d c.max.result c.min.result o c.max.ensures c.min.ensures in
    simp to_z-of_z (gap_read d c.from.result c.max.result c.min.result (c.from.ensures ∙ ap pos c.size.ensures) c.max.ensures c.min.ensures ∙ ap (λ a. misses_some (left_to box a)) (sym c.in-Var.is))
