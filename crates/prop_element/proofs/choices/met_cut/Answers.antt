use Rattle.std.proofs.Common.{◌≡◌, subst, rules, true, arith}
use Rattle.std.proofs.lemmas.Int.{to_z-of_z}
use mir.Val.{SFits}
use mir.Syntax.{w64}
use Rattle.std.specs.List.{list_all}
use Rattle.qc_model.specs.declared.problem.Arg.{Arg}
use Rattle.qc_refuter.specs.Met.{is_open}
use Rattle.prop_base.specs.Closed.{keeps_arg}
use Rattle.prop_different.proofs.Options.{none_so}
use Rattle.prop_element.specs.Extremes.{item_at}
use Rattle.prop_element.specs.Choices.{IsChoice, IsLowestMet, IsHighestMet}
use Rattle.prop_element.proofs.ChosenItems.{result_hull, item_hull, two_keep, one_keeps, only_one, some_met}
use Rattle.prop_element.proofs.Moved.{open_item}
use Rattle.prop_element.proofs.choices.met_cut.Goals as goal

pub arg_cut-requires-clause-hull : goal.arg_cut-requires-clause-hull
arg_cut-requires-clause-hull c x e =
    let low_fits : SFits w64 c.lowest_met-low.result = search rules in
    let high_fits : SFits w64 c.highest_met-high.result = search rules in
    let u = c.args.rule.now in
    let box = c.args.store.now.box in
    let a = c.args.a in
    let items = c.args.items.now in
    let C : Arg → Type 0 = λ z. IsChoice u a items z in
    let L : Arg → Type 0 = λ z. IsLowestMet box a items z c.lowest_met-low.result in
    let H : Arg → Type 0 = λ z. IsHighestMet box a items z c.highest_met-high.result in
    simp to_z-of_z (result_hull u box x a items c.lowest_met-low.result c.highest_met-high.result (subst (λ z. is_open box z ≡ true) e c.requires.last) (subst C e c.requires.choice) (subst L e c.lowest_met-low.ensures) (subst H e c.highest_met-high.ensures))

pub returns-then-start-end-clause-none : goal.returns-then-start-end-clause-none
returns-then-start-end-clause-none c = (
  c.in_default.ensures.none,
  two_keep c.args.rule.now c.args.store.now.box c.args.a c.args.items.now c.args.r c.args.start c.args.end c.requires.choice c.requires.start c.requires.end c.if-start-end.true,
)

pub arg_cut-requires-2-clause-hull : goal.arg_cut-requires-2-clause-hull
arg_cut-requires-2-clause-hull c x e =
    let low_fits : SFits w64 c.lowest_met-low.result = search rules in
    let high_fits : SFits w64 c.highest_met-high.result = search rules in
    let u = c.args.rule.now in
    let box = c.args.store.now.box in
    let a = c.args.a in
    let items = c.args.items.now in
    let r = c.args.r in
    let one = only_one box a items r c.args.start c.args.end c.requires.start c.requires.end (λ l. omega (arith, l, c.if-start-end.false)) in
    let o = subst (λ z. is_open box z ≡ true) e (open_item box items c.args.start c.requires.items c.requires.start.place) in
    simp to_z-of_z (item_hull u box x a items r c.args.start c.lowest_met-low.result c.highest_met-high.result o c.requires.choice e c.requires.start one c.lowest_met-low.ensures c.highest_met-high.ensures)

pub returns-clause-none : goal.returns-clause-none
returns-clause-none c =
    let u = c.args.rule.now in
    let box = c.args.store.now.box in
    let items = c.args.items.now in
    none_so c.arg_cut-2.result (keeps_arg u box (item_at items c.args.start) ≡ true) ((keeps_arg u box c.args.r ≡ true) × (list_all (keeps_arg u box) items ≡ true))
    (λ k. (c.in_default.ensures.none, one_keeps u box c.args.a items c.args.r c.args.start c.requires.choice c.requires.start k)) c.arg_cut-2.ensures.none

pub highest_met-high-requires-clause-some : goal.highest_met-high-requires-clause-some
highest_met-high-requires-clause-some c =
    let v_fits : SFits w64 c.args.some = search rules in
    simp to_z-of_z (some_met c.args.store.now.box c.args.a c.args.items.now c.args.r c.args.start c.args.some c.requires.start c.requires.some)

pub arg_cut-requires-2-clause-open : goal.arg_cut-requires-2-clause-open
arg_cut-requires-2-clause-open c = open_item c.args.store.now.box c.args.items.now c.args.start c.requires.items c.requires.start.place
