use Rattle.std.proofs.Common.{◌∙◌, sym, arith}
use Rattle.std.specs.Prelude.{pos, ◌<ℤ◌}
use Rattle.std.proofs.lemmas.Int.{ints, to_z-of_z}
use mir.Val.{SFits}
use mir.Syntax.{w64}
use Rattle.model_evaluation.specs.Evaluation.{item_values}
use Rattle.model_evaluation.proofs.Places.{before_place, at_place}
use Rattle.model_evaluation.proofs.elements.value_is.Goals as goal

pub returns-then-place-lt1 : goal.returns-then-place-lt1
returns-then-place-lt1 c =
    let before : c.args.place <ℤ pos 1 = grind (arith, ints, c.if-place-lt1.true) in
    sym (before_place (pos 1) c.args.place (item_values c.args.values.now c.args.items.now) c.args.number before)

pub returns : goal.returns
returns c =
    let place_fits : SFits w64 c.args.place = c.ranges.place in
    let number_fits : SFits w64 c.args.number = c.ranges.number in
    let at = simp to_z-of_z at c.value_at_is.ensures in
    let place = simp to_z-of_z at c.from_zero.ensures in
    at ∙ sym (at_place (pos 1) c.args.place c.from_zero.result (item_values c.args.values.now c.args.items.now) c.args.number place)
