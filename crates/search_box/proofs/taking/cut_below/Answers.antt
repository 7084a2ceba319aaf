use Rattle.std.proofs.Common.{◌≡◌, ◌∙◌, sym, ap, rules, true, arith, ℤ}
use Rattle.std.specs.Prelude.{int_le, negsuc, pos, ◌-ℤ◌, ◌<ℤ◌}
use Rattle.std.proofs.lemmas.Int.{ints, to_z-of_z}
use mir.Val.{SFits}
use mir.Syntax.{w64}
use Rattle.qc_model.specs.Domains.{values_left, least_value, box_without}
use Rattle.qc_model.specs.Valid.{is_number}
use Rattle.model_arguments.proofs.Values.{value_passes}
use Rattle.box_laws.proofs.Emptying.{nothing_goes, none_below}
use Rattle.box_laws.proofs.Numbers.{passed_before, fits_before}
use Rattle.search_box.proofs.taking.cut_below.Goals as goal

before : (v l : ℤ) → int_le v l ≡ true → (v -ℤ pos 1) <ℤ l
before v l h = grind (arith, ints)

pub returns-then-v-min-clause-content : goal.returns-then-v-min-clause-content
returns-then-v-min-clause-content c =
    let v_fits : SFits w64 c.args.v = search rules in
    let least_fits : SFits w64 c.min.result = search rules in
    let vs = values_left c.args.store.now.box c.args.x.0 in
    let low : int_le c.args.v c.min.result ≡ true = simp to_z-of_z at c.if-v-min.true in
    nothing_goes c.args.store.now.box c.args.x.0 (negsuc 999999999) (c.args.v -ℤ pos 1)
    (none_below (negsuc 999999999) (c.args.v -ℤ pos 1) vs (before c.args.v (least_value vs) (sym (ap (int_le c.args.v) c.min.ensures) ∙ low)))

pub returns-clause-content : goal.returns-clause-content
returns-clause-content c =
    let box = c.args.store.now.box in
    let small : is_number c.args.v ≡ true = value_passes is_number (values_left box c.args.x.0) c.args.v c.known.ensures.numbers c.requires.left in
    c.in_ok-cut.ensures.content ∙ ap (λ h. box_without box c.args.x.0 (negsuc 999999999) h) (passed_before c.args.v small)

pub overflow_sub-v : goal.overflow_sub-v
overflow_sub-v c = fits_before c.args.v (value_passes is_number (values_left c.args.store.now.box c.args.x.0) c.args.v c.known.ensures.numbers c.requires.left)
