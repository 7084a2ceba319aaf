use Rattle.std.proofs.Common.{rules}
use Rattle.std.proofs.lemmas.Int.{to_z-of_z}
use mir.Val.{SFits}
use mir.Syntax.{w64}
use Rattle.prop_element.proofs.ChosenItems.{lower_kept, lower_over, lower_unfit, lower_taken}
use Rattle.prop_element.proofs.Moved.{open_item}
use Rattle.prop_element.proofs.choices.lower_met.Goals as goal

pub returns-then-best-least : goal.returns-then-best-least
returns-then-best-least c =
    let best_fits : SFits w64 c.args.best = search rules in
    let v_fits : SFits w64 c.least.result = search rules in
    simp to_z-of_z (lower_over c.args.store.now.box c.args.a c.args.items.now c.args.r c.args.best c.least.result c.args.k c.requires.best c.least.ensures (simp to_z-of_z at c.if-best-least.true))

pub returns-in_default : goal.returns-in_default
returns-in_default c =
    let best_fits : SFits w64 c.args.best = search rules in
    simp to_z-of_z (lower_unfit c.args.store.now.box c.args.a c.args.items.now c.args.r c.args.best c.args.k c.requires.best c.in_default.ensures.none)

pub returns-then-v-best : goal.returns-then-v-best
returns-then-v-best c =
    let best_fits : SFits w64 c.args.best = search rules in
    let v_fits : SFits w64 c.in-Some.v = search rules in
    simp to_z-of_z (lower_taken c.args.store.now.box c.args.a c.args.items.now c.args.r c.args.best c.args.k c.in-Some.v c.requires.place c.in-Some.ensures.some (simp to_z-of_z at c.if-v-best.true))

pub returns-else-v-best : goal.returns-else-v-best
returns-else-v-best c =
    let best_fits : SFits w64 c.args.best = search rules in
    let v_fits : SFits w64 c.in-Some.v = search rules in
    simp to_z-of_z (lower_kept c.args.store.now.box c.args.a c.args.items.now c.args.r c.args.best c.args.k c.in-Some.v c.requires.best c.in-Some.ensures.some (simp to_z-of_z at c.if-v-best.false))

pub least-requires : goal.least-requires
least-requires c = open_item c.args.store.now.box c.args.items.now c.args.k c.requires.items c.requires.place
