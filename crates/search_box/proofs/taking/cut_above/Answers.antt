use Rattle.std.proofs.Common.{◌≡◌, ◌∙◌, sym, ap, rules, true, arith, ℤ}
use Rattle.std.specs.Prelude.{int_le, pos, ◌+ℤ◌, ◌<ℤ◌}
use Rattle.std.proofs.lemmas.Int.{ints, to_z-of_z}
use mir.Val.{SFits}
use mir.Syntax.{w64}
use Rattle.qc_model.specs.Domains.{values_left, greatest_value, box_without}
use Rattle.qc_model.specs.Valid.{is_number}
use Rattle.model_arguments.proofs.Values.{value_passes}
use Rattle.box_laws.proofs.Emptying.{nothing_goes, none_above}
use Rattle.box_laws.proofs.Numbers.{passed_after, fits_after}
use Rattle.search_box.proofs.taking.cut_above.Goals as goal

after : (v g : ℤ) → int_le g v ≡ true → g <ℤ (v +ℤ pos 1)
after v g h = grind (arith, ints)

pub returns-then-max-v-clause-content : goal.returns-then-max-v-clause-content
returns-then-max-v-clause-content c =
    let v_fits : SFits w64 c.args.v = search rules in
    let most_fits : SFits w64 c.max.result = search rules in
    let vs = values_left c.args.store.now.box c.args.x.0 in
    let high : int_le c.max.result c.args.v ≡ true = simp to_z-of_z at c.if-max-v.true in
    nothing_goes c.args.store.now.box c.args.x.0 (c.args.v +ℤ pos 1) (pos 1000000000)
    (none_above (c.args.v +ℤ pos 1) (pos 1000000000) vs (after c.args.v (greatest_value vs) (sym (ap (λ g. int_le g c.args.v) c.max.ensures) ∙ high)))

pub returns-clause-content : goal.returns-clause-content
returns-clause-content c =
    let box = c.args.store.now.box in
    let small : is_number c.args.v ≡ true = value_passes is_number (values_left box c.args.x.0) c.args.v c.known.ensures.numbers c.requires.left in
    c.in_ok-cut.ensures.content ∙ ap (λ l. box_without box c.args.x.0 l (pos 1000000000)) (passed_after c.args.v small)

pub overflow_add-v : goal.overflow_add-v
overflow_add-v c = fits_after c.args.v (value_passes is_number (values_left c.args.store.now.box c.args.x.0) c.args.v c.known.ensures.numbers c.requires.left)
