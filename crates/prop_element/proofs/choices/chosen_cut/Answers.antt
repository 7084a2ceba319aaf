use Rattle.std.proofs.Common.{◌≡◌, ◌+◌, subst, rules, true, sym, ℤ}
use Rattle.std.specs.Prelude.{pos}
use Rattle.std.proofs.lemmas.Int.{to_z-of_z}
use mir.Val.{SFits}
use mir.Syntax.{w64}
use Rattle.qc_model.specs.declared.problem.Arg.{Arg}
use Rattle.qc_refuter.specs.Met.{is_open}
use Rattle.prop_element.specs.Choices.{IsChoice, IsFirstItem, IsLastItem}
use Rattle.prop_element.specs.Hulls.{IsHull}
use Rattle.prop_element.proofs.ChosenItems.{place_hull}
use Rattle.prop_element.proofs.choices.chosen_cut.Goals as goal

pub arg_cut-requires-clause-hull : goal.arg_cut-requires-clause-hull
arg_cut-requires-clause-hull c x e =
    let from_fits : SFits w64 c.counted.result = search rules in
    let to_fits : SFits w64 c.counted-2.result = search rules in
    let u = c.args.rule.now in
    let box = c.args.store.now.box in
    let items = c.args.items.now in
    let r = c.args.r in
    let C : Arg → Type 0 = λ z. IsChoice u z items r in
    let F : Arg → Type 0 = λ z. IsFirstItem box z items r c.in-Some.first.place in
    let L : Arg → Type 0 = λ z. IsLastItem box z items r c.last_item-end.result in
    let h = place_hull u box x items r c.in-Some.first.place c.last_item-end.result (subst (λ z. is_open box z ≡ true) e c.requires.first) (subst C e c.requires.choice) (subst F e c.in-Some.ensures.first) (subst L e c.last_item-end.ensures) in
    let P : ℤ → Type 0 = λ z. IsHull u box x.0 z (pos (c.last_item-end.result + 1)) in
    let Q : ℤ → Type 0 = λ z. IsHull u box x.0 c.counted.result z in
    simp to_z-of_z (subst Q (sym c.counted-2.ensures) (subst P (sym c.counted.ensures) h))
