use Rattle.std.proofs.Common.{rules, to_z}
use Rattle.std.proofs.lemmas.Int.{to_z-of_z}
use mir.Val.{SFits}
use mir.Syntax.{w64}
use Rattle.qc_model.specs.Refuted.{left_to}
use Rattle.qc_refuter.proofs.Domains.{some_left}
use Rattle.qc_refuter.proofs.Commons.{walk_start, walk_smaller, walk_none, walk_found}
use Rattle.prop_compare.proofs.common.least_common.Goals as goal

pub loop-w-init : goal.loop-w-init
loop-w-init c =
    let v_fits : SFits w64 c.least-v.result = search rules in
    let d = left_to c.args.store.now.box c.args.a in
    let e = left_to c.args.store.now.box c.args.b in
    simp to_z-of_z (walk_start d e c.least-v.result (some_left d c.requires.a) c.least-v.ensures)

pub loop-w-smaller : goal.loop-w-smaller
loop-w-smaller c =
    let w_fits : SFits w64 c.in-Some.w = search rules in
    let d = left_to c.args.store.now.box c.args.a in
    let e = left_to c.args.store.now.box c.args.b in
    let v = to_z w64 c.loop-w.v-bits in
    simp to_z-of_z (walk_smaller d e v c.in-Some.w c.requires.a c.loop-w.invariant c.in-Some.ensures.some (simp to_z-of_z at c.if-w-v.false))

pub returns-clause-none : goal.returns-clause-none
returns-clause-none c =
    let d = left_to c.args.store.now.box c.args.a in
    let e = left_to c.args.store.now.box c.args.b in
    walk_none d e (to_z w64 c.loop-w.v-bits) c.loop-w.invariant c.in_default.ensures.none

pub returns-then-w-v-clause-some : goal.returns-then-w-v-clause-some
returns-then-w-v-clause-some c =
    let w_fits : SFits w64 c.in-Some.w = search rules in
    let d = left_to c.args.store.now.box c.args.a in
    let e = left_to c.args.store.now.box c.args.b in
    walk_found d e (to_z w64 c.loop-w.v-bits) c.in-Some.w c.loop-w.invariant c.in-Some.ensures.some (simp to_z-of_z at c.if-w-v.true)
