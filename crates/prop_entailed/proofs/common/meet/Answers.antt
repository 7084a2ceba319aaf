use Rattle.std.proofs.Common.{rules, to_z, not, sym, ap}
use Rattle.std.proofs.lemmas.Int.{to_z-of_z}
use mir.Val.{SFits}
use mir.Syntax.{w64}
use Rattle.qc_model.specs.Refuted.{left_to}
use Rattle.qc_refuter.proofs.Domains.{some_left, some_common}
use Rattle.qc_refuter.proofs.Commons.{walk_start, walk_smaller, walk_found, walk_none}
use Rattle.prop_entailed.proofs.common.meet.Goals as goal

pub loop-w-init : goal.loop-w-init
loop-w-init c =
    let v_fits : SFits w64 c.least-v.result = search rules in
    let d = left_to c.args.store.now.box c.args.a in
    let e = left_to c.args.store.now.box c.args.b in
    simp to_z-of_z (walk_start d e c.least-v.result (some_left d c.requires.a) c.least-v.ensures)

pub returns-then-w-v : goal.returns-then-w-v
returns-then-w-v c =
    let w_fits : SFits w64 c.in-Some.w = search rules in
    let d = left_to c.args.store.now.box c.args.a in
    let e = left_to c.args.store.now.box c.args.b in
    let v = to_z w64 c.loop-w.v-bits in
    let f = walk_found d e v c.in-Some.w c.loop-w.invariant c.in-Some.ensures.some (simp to_z-of_z at c.if-w-v.true) in
    sym (ap not (some_common d e v f.first f.second))

pub loop-w-smaller : goal.loop-w-smaller
loop-w-smaller c =
    let w_fits : SFits w64 c.in-Some.w = search rules in
    let d = left_to c.args.store.now.box c.args.a in
    let e = left_to c.args.store.now.box c.args.b in
    let v = to_z w64 c.loop-w.v-bits in
    simp to_z-of_z (walk_smaller d e v c.in-Some.w c.requires.a c.loop-w.invariant c.in-Some.ensures.some (simp to_z-of_z at c.if-w-v.false))

pub returns : goal.returns
returns c =
    let d = left_to c.args.store.now.box c.args.a in
    let e = left_to c.args.store.now.box c.args.b in
    sym (ap not (walk_none d e (to_z w64 c.loop-w.v-bits) c.loop-w.invariant c.in_default.ensures.none))
