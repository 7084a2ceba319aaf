use Rattle.std.proofs.Common.{◌≡◌, ◌+◌, ◌∙◌, rules, sym, ap, true}
use Rattle.std.specs.Prelude.{pos}
use Rattle.std.proofs.lemmas.Int.{to_z-of_z}
use mir.Val.{SFits}
use mir.Syntax.{w64}
use Rattle.qc_model.specs.Domains.{has_value}
use Rattle.qc_model.specs.Refuted.{left_to}
use Rattle.prop_element.proofs.ChosenItems.{higher_kept, higher_under, higher_none, higher_some}
use Rattle.prop_element.proofs.Moved.{open_item}
use Rattle.prop_element.proofs.choices.higher_met.Goals as goal

pub returns-then-greatest-best : goal.returns-then-greatest-best
returns-then-greatest-best c =
    let best_fits : SFits w64 c.args.best = search rules in
    let v_fits : SFits w64 c.greatest.result = search rules in
    simp to_z-of_z (higher_under c.args.store.now.box c.args.a c.args.items.now c.args.r c.args.best c.greatest.result c.args.k c.requires.best c.greatest.ensures (simp to_z-of_z at c.if-greatest-best.true))

pub returns-in_default : goal.returns-in_default
returns-in_default c =
    let best_fits : SFits w64 c.args.best = search rules in
    simp to_z-of_z (higher_none c.args.store.now.box c.args.a c.args.items.now c.args.r c.args.best c.args.k c.requires.best c.in_default.ensures.none)

pub returns-then-best-v : goal.returns-then-best-v
returns-then-best-v c =
    let best_fits : SFits w64 c.args.best = search rules in
    let v_fits : SFits w64 c.in-Some.v = search rules in
    let k_fits : SFits w64 c.counted.result = search rules in
    let box = c.args.store.now.box in
    let h : c.has.result ≡ has_value (left_to box c.args.a) c.counted.result = simp to_z-of_z at c.has.ensures in
    let left : has_value (left_to box c.args.a) (pos (c.args.k + 1)) ≡ true = ap (has_value (left_to box c.args.a)) (sym c.counted.ensures) ∙ (sym h ∙ c.if-not-has.false) in
    simp to_z-of_z (higher_some box c.args.a c.args.items.now c.args.r c.args.best c.args.k c.in-Some.v c.requires.place left c.in-Some.ensures.some (simp to_z-of_z at c.if-best-v.true))

pub returns-else-best-v : goal.returns-else-best-v
returns-else-best-v c =
    let best_fits : SFits w64 c.args.best = search rules in
    let v_fits : SFits w64 c.in-Some.v = search rules in
    simp to_z-of_z (higher_kept c.args.store.now.box c.args.a c.args.items.now c.args.r c.args.best c.args.k c.in-Some.v c.requires.best c.in-Some.ensures.some (simp to_z-of_z at c.if-best-v.false))

pub greatest-requires : goal.greatest-requires
greatest-requires c = open_item c.args.store.now.box c.args.items.now c.args.k c.requires.items c.requires.place

pub greatest_common-requires-clause-a : goal.greatest_common-requires-clause-a
greatest_common-requires-clause-a c = open_item c.args.store.now.box c.args.items.now c.args.k c.requires.items c.requires.place
