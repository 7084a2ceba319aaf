use Rattle.std.proofs.Common.{◌≡◌, sym, subst, rules, true, not}
use Rattle.std.proofs.lemmas.Int.{to_z-of_z}
use Rattle.std.proofs.lemmas.Bool.{and_from}
use mir.Val.{SFits}
use mir.Syntax.{w64}
use Rattle.qc_model.specs.Closed.{refutes_at}
use Rattle.qc_model.specs.Domains.{declared_box, values_left, least_value, greatest_value}
use Rattle.qc_model.specs.Valid.{is_number}
use Rattle.model_arguments.proofs.Values.{has_least, has_greatest}
use Rattle.model_arguments.proofs.Boxes.{some_left, sub_ascending}
use Rattle.prop_base.proofs.Keeps.{keeps_end}
use Rattle.prop_base.proofs.OneEnd.{least_end, greatest_end, ends_ordered, end_stays, end_small, end_goes}
use Rattle.prop_base.proofs.Widening.{width_back}
use Rattle.prop_base.proofs.ends.end_cut.Goals as goal

pub width-room-requires-clause-low : goal.width-room-requires-clause-low
width-room-requires-clause-low g c =
    let l_fits : SFits w64 c.min-low.result = search rules in
    let l = least_end c.args.problem.now c.args.rule.now c.args.store.now.box c.args.x c.min-low.result c.requires.asked c.known.ensures.domains c.requires.x c.min-low.ensures in
    simp to_z-of_z (end_small c.args.problem.now c.args.rule.now c.args.store.now.box c.args.x c.min-low.result l)

pub width-room-requires-clause-high : goal.width-room-requires-clause-high
width-room-requires-clause-high g c =
    let h_fits : SFits w64 c.max-high.result = search rules in
    let h = greatest_end c.args.problem.now c.args.rule.now c.args.store.now.box c.args.x c.max-high.result c.requires.asked c.known.ensures.domains c.requires.x c.max-high.ensures in
    simp to_z-of_z (end_small c.args.problem.now c.args.rule.now c.args.store.now.box c.args.x c.max-high.result h)

pub width-room-requires-clause-order : goal.width-room-requires-clause-order
width-room-requires-clause-order g c =
    let l_fits : SFits w64 c.min-low.result = search rules in
    let h_fits : SFits w64 c.max-high.result = search rules in
    simp to_z-of_z (ends_ordered c.args.problem.now c.args.rule.now c.args.store.now.box c.args.x c.min-low.result c.max-high.result c.requires.asked c.requires.x c.min-low.ensures c.max-high.ensures)

pub refutes_in-requires-clause-left : goal.refutes_in-requires-clause-left
refutes_in-requires-clause-left g c =
    let l_fits : SFits w64 c.min-low.result = search rules in
    let l = least_end c.args.problem.now c.args.rule.now c.args.store.now.box c.args.x c.min-low.result c.requires.asked c.known.ensures.domains c.requires.x c.min-low.ensures in
    simp to_z-of_z (end_stays c.args.problem.now c.args.rule.now c.args.store.now.box c.args.x c.min-low.result l)

pub widest-requires-clause-range : goal.widest-requires-clause-range
widest-requires-clause-range g c =
    let l_fits : SFits w64 c.min-low.result = search rules in
    let l = least_end c.args.problem.now c.args.rule.now c.args.store.now.box c.args.x c.min-low.result c.requires.asked c.known.ensures.domains c.requires.x c.min-low.ensures in
    let e = simp to_z-of_z at c.if-refutes_in.ensures in
    simp to_z-of_z (end_goes c.args.problem.now c.args.rule.now c.args.store.now.box c.args.x c.min-low.result l (sym e))

pub widest-requires-clause-low : goal.widest-requires-clause-low
widest-requires-clause-low g c =
    let l_fits : SFits w64 c.min-low.result = search rules in
    let l = least_end c.args.problem.now c.args.rule.now c.args.store.now.box c.args.x c.min-low.result c.requires.asked c.known.ensures.domains c.requires.x c.min-low.ensures in
    simp to_z-of_z (end_small c.args.problem.now c.args.rule.now c.args.store.now.box c.args.x c.min-low.result l)

pub widest-requires-clause-high : goal.widest-requires-clause-high
widest-requires-clause-high g c =
    let l_fits : SFits w64 c.min-low.result = search rules in
    let h_fits : SFits w64 c.max-high.result = search rules in
    let h = greatest_end c.args.problem.now c.args.rule.now c.args.store.now.box c.args.x c.max-high.result c.requires.asked c.known.ensures.domains c.requires.x c.max-high.ensures in
    let w = simp to_z-of_z at c.width-room.ensures.value in
    simp to_z-of_z (subst (λ z. is_number z ≡ true) (sym w) (end_small c.args.problem.now c.args.rule.now c.args.store.now.box c.args.x c.max-high.result h))

pub refutes_in-requires-2-clause-left : goal.refutes_in-requires-2-clause-left
refutes_in-requires-2-clause-left g c =
    let h_fits : SFits w64 c.max-high.result = search rules in
    let h = greatest_end c.args.problem.now c.args.rule.now c.args.store.now.box c.args.x c.max-high.result c.requires.asked c.known.ensures.domains c.requires.x c.max-high.ensures in
    simp to_z-of_z (end_stays c.args.problem.now c.args.rule.now c.args.store.now.box c.args.x c.max-high.result h)

pub widest-requires-then-refutes_in-2-clause-range : goal.widest-requires-then-refutes_in-2-clause-range
widest-requires-then-refutes_in-2-clause-range g c =
    let h_fits : SFits w64 c.max-high.result = search rules in
    let h = greatest_end c.args.problem.now c.args.rule.now c.args.store.now.box c.args.x c.max-high.result c.requires.asked c.known.ensures.domains c.requires.x c.max-high.ensures in
    let e = simp to_z-of_z at c.if-refutes_in-2.ensures in
    simp to_z-of_z (end_goes c.args.problem.now c.args.rule.now c.args.store.now.box c.args.x c.max-high.result h (sym e))

pub widest-requires-then-refutes_in-2-clause-low : goal.widest-requires-then-refutes_in-2-clause-low
widest-requires-then-refutes_in-2-clause-low g c =
    let l_fits : SFits w64 c.min-low.result = search rules in
    let h_fits : SFits w64 c.max-high.result = search rules in
    let l = least_end c.args.problem.now c.args.rule.now c.args.store.now.box c.args.x c.min-low.result c.requires.asked c.known.ensures.domains c.requires.x c.min-low.ensures in
    let w = simp to_z-of_z at c.width-room.ensures.value in
    let back = width_back c.min-low.result c.max-high.result c.width-room.result w in
    simp to_z-of_z (subst (λ z. is_number z ≡ true) (sym back) (end_small c.args.problem.now c.args.rule.now c.args.store.now.box c.args.x c.min-low.result l))

pub widest-requires-then-refutes_in-2-clause-high : goal.widest-requires-then-refutes_in-2-clause-high
widest-requires-then-refutes_in-2-clause-high g c =
    let h_fits : SFits w64 c.max-high.result = search rules in
    let h = greatest_end c.args.problem.now c.args.rule.now c.args.store.now.box c.args.x c.max-high.result c.requires.asked c.known.ensures.domains c.requires.x c.max-high.ensures in
    simp to_z-of_z (end_small c.args.problem.now c.args.rule.now c.args.store.now.box c.args.x c.max-high.result h)

pub returns-clause-none : goal.returns-clause-none
returns-clause-none g c =
    let low_fits : SFits w64 c.min-low.result = search rules in
    let high_fits : SFits w64 c.max-high.result = search rules in
    let box = c.args.store.now.box in
    let r = c.args.rule.now in
    let x = c.args.x.0 in
    let vs = values_left box x in
    let some = some_left box x c.requires.asked.full c.requires.x in
    let a = sub_ascending box (declared_box c.args.problem.now) x c.requires.asked.declared in
    let e = simp to_z-of_z at c.if-refutes_in.ensures in
    let d = simp to_z-of_z at c.if-refutes_in-2.ensures in
    and_from (not (refutes_at r box x (least_value vs))) (not (refutes_at r box x (greatest_value vs)))
    (keeps_end r box x c.min-low.result (least_value vs) c.min-low.ensures a (has_least vs some) (sym e))
    (keeps_end r box x c.max-high.result (greatest_value vs) c.max-high.ensures a (has_greatest vs some) (sym d))
