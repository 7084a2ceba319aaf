use Rattle.std.proofs.Common.{rules, to_z, sym, ◌∙◌}
use Rattle.std.proofs.lemmas.Int.{to_z-of_z}
use mir.Val.{SFits}
use mir.Syntax.{w64}
use Rattle.qc_model.specs.Domains.{set_has}
use Rattle.qc_model.specs.Refuted.{left_to}
use Rattle.qc_refuter.specs.Met.{seen}
use Rattle.qc_refuter.proofs.Commons.{from_some}
use Rattle.qc_refuter.proofs.Listed.{walked_to, all_walked, member_walk_smaller, met}
use Rattle.qc_refuter.proofs.Walks.{none_before, none_walked}
use Rattle.qc_refuter.proofs.members.some_inside.Goals as goal

pub loop-v-init : goal.loop-v-init
loop-v-init c =
    let low_fits : SFits w64 c.least-from.result = search rules in
    simp to_z-of_z (none_before (set_has c.args.set.now) (left_to (seen c.args.view.now) c.args.arg) c.least-from.result c.least-from.ensures)

pub returns-in_default-member_from : goal.returns-in_default-member_from
returns-in_default-member_from c =
    let d = left_to (seen c.args.view.now) c.args.arg in
    let v_fits : SFits w64 c.in-Some.v = search rules in
    let from = to_z w64 c.loop-v.from-bits in
    let n = from_some d from c.in-Some.v (sym c.in-Some.is ∙ c.next.ensures) in
    let k = simp to_z-of_z at c.in_default-member_from.ensures.none in
    all_walked c.args.set.now d from c.in-Some.v c.loop-v.invariant n k

pub returns-then-m-v : goal.returns-then-m-v
returns-then-m-v c =
    let d = left_to (seen c.args.view.now) c.args.arg in
    let v_fits : SFits w64 c.in-Some.v = search rules in
    let m_fits : SFits w64 c.in-Some-member_from.m = search rules in
    let from = to_z w64 c.loop-v.from-bits in
    let n = from_some d from c.in-Some.v (sym c.in-Some.is ∙ c.next.ensures) in
    let k = simp to_z-of_z at c.in-Some-member_from.ensures.some in
    let t = simp to_z-of_z at c.if-m-v.true in
    met c.args.set.now d from c.in-Some.v c.in-Some-member_from.m n k t

pub loop-v-smaller : goal.loop-v-smaller
loop-v-smaller c =
    let d = left_to (seen c.args.view.now) c.args.arg in
    let v_fits : SFits w64 c.in-Some.v = search rules in
    let m_fits : SFits w64 c.in-Some-member_from.m = search rules in
    let from = to_z w64 c.loop-v.from-bits in
    let n = from_some d from c.in-Some.v (sym c.in-Some.is ∙ c.next.ensures) in
    let k = simp to_z-of_z at c.in-Some-member_from.ensures.some in
    let t = simp to_z-of_z at c.if-m-v.false in
    simp to_z-of_z (member_walk_smaller c.args.set.now d from c.in-Some.v c.in-Some-member_from.m c.requires.set n k t)

pub loop-v-preserved : goal.loop-v-preserved
loop-v-preserved c =
    let d = left_to (seen c.args.view.now) c.args.arg in
    let v_fits : SFits w64 c.in-Some.v = search rules in
    let m_fits : SFits w64 c.in-Some-member_from.m = search rules in
    let from = to_z w64 c.loop-v.from-bits in
    let n = from_some d from c.in-Some.v (sym c.in-Some.is ∙ c.next.ensures) in
    let k = simp to_z-of_z at c.in-Some-member_from.ensures.some in
    simp to_z-of_z (walked_to c.args.set.now d from c.in-Some.v c.in-Some-member_from.m c.loop-v.invariant n k)

pub returns : goal.returns
returns c =
    let d = left_to (seen c.args.view.now) c.args.arg in
    none_walked (set_has c.args.set.now) d (to_z w64 c.loop-v.from-bits) c.loop-v.invariant (sym c.in_default.is ∙ c.next.ensures)
