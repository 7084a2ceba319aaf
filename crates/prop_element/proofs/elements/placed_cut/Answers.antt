use Rattle.std.proofs.Common.{◌≡◌, ◌+◌, rules, sym, subst, true, get_or, ℤ}
use Rattle.std.specs.Prelude.{pos}
use Rattle.std.proofs.lemmas.Int.{to_z-of_z}
use mir.Val.{SFits}
use mir.Syntax.{w64}
use Rattle.qc_model.specs.declared.problem.Arg.{Arg}
use Rattle.qc_model.specs.Refuted.{left_to}
use Rattle.qc_refuter.specs.Met.{is_open}
use Rattle.prop_element.specs.Hulls.{IsHull}
use Rattle.prop_element.specs.Elements.{IsElement, IsFirstPlace, IsLastPlace, IsLowestPlace, IsHighestPlace}
use Rattle.prop_element.proofs.Supports.{none_refuted, place_hull, number_hull}
use Rattle.prop_element.proofs.elements.placed_cut.Goals as goal

pub either_cut-requires-clause-refuted : goal.either_cut-requires-clause-refuted
either_cut-requires-clause-refuted c = none_refuted c.args.rule.now c.args.store.now.box c.args.a c.args.numbers.now c.args.r c.requires.element c.in_default.ensures.none

pub arg_cut-requires-clause-hull : goal.arg_cut-requires-clause-hull
arg_cut-requires-clause-hull c x e =
    let from_fits : SFits w64 c.counted-from.result = search rules in
    let to_fits : SFits w64 c.counted-to.result = search rules in
    let u = c.args.rule.now in
    let box = c.args.store.now.box in
    let ns = c.args.numbers.now in
    let r = c.args.r in
    let E : Arg → Type 0 = λ z. IsElement u z ns r in
    let F : Arg → Type 0 = λ z. IsFirstPlace (left_to box z) ns (left_to box r) c.in-Some.start in
    let L : Arg → Type 0 = λ z. IsLastPlace (left_to box z) ns (left_to box r) c.last_place-end.result in
    let h = place_hull u box x ns r c.in-Some.start c.last_place-end.result (subst (λ z. is_open box z ≡ true) e c.requires.first) (subst E e c.requires.element) (subst F e c.in-Some.ensures.some) (subst L e c.last_place-end.ensures) in
    let P : ℤ → Type 0 = λ z. IsHull u box x.0 z (pos (c.last_place-end.result + 1)) in
    let Q : ℤ → Type 0 = λ z. IsHull u box x.0 c.counted-from.result z in
    simp to_z-of_z (subst Q (sym c.counted-to.ensures) (subst P (sym c.counted-from.ensures) h))

pub arg_cut-requires-2-clause-hull : goal.arg_cut-requires-2-clause-hull
arg_cut-requires-2-clause-hull c x e =
    let ns = c.args.numbers.now in
    let low_fits : SFits w64 (get_or ns c.lowest_place-low.result (pos 0)) = search rules in
    let high_fits : SFits w64 (get_or ns c.highest_place-high.result (pos 0)) = search rules in
    let u = c.args.rule.now in
    let box = c.args.store.now.box in
    let a = c.args.a in
    let E : Arg → Type 0 = λ z. IsElement u a ns z in
    let L : Arg → Type 0 = λ z. IsLowestPlace (left_to box a) ns (left_to box z) c.lowest_place-low.result in
    let H : Arg → Type 0 = λ z. IsHighestPlace (left_to box a) ns (left_to box z) c.highest_place-high.result in
    simp to_z-of_z (number_hull u box x ns a c.lowest_place-low.result c.highest_place-high.result (subst (λ z. is_open box z ≡ true) e c.requires.last) (subst E e c.requires.element) (subst L e c.lowest_place-low.ensures) (subst H e c.highest_place-high.ensures))
