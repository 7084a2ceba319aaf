use Rattle.std.proofs.Common.{◌∙◌, sym, ap, rules}
use Rattle.std.proofs.lemmas.Int.{to_z-of_z}
use mir.Val.{SFits}
use mir.Syntax.{w64}
use Rattle.qc_model.specs.Domains.{has_value}
use Rattle.qc_refuter.specs.Met.{seen}
use Rattle.qc_refuter.proofs.Seen.{has_below, has_above, has_inside, has_written, left_there, stands}
use Rattle.qc_refuter.proofs.view.has.Goals as goal

pub returns-then-v-view : goal.returns-then-v-view
returns-then-v-view c =
    let v = c.args.view.now in
    let v_fits : SFits w64 c.args.v = search rules in
    let lo_fits : SFits w64 c.args.view.now.lo = search rules in
    let below = simp to_z-of_z at c.if-v-view.true in
    has_below v.store.now.box v.x.0 v.lo v.hi c.args.v c.args.arg c.in-Var.y c.in-Var.is c.if-y-view.false below

pub returns-then-view-v : goal.returns-then-view-v
returns-then-view-v c =
    let v = c.args.view.now in
    let v_fits : SFits w64 c.args.v = search rules in
    let hi_fits : SFits w64 c.args.view.now.hi = search rules in
    let above = simp to_z-of_z at c.if-view-v.true in
    has_above v.store.now.box v.x.0 v.lo v.hi c.args.v c.args.arg c.in-Var.y c.in-Var.is c.if-y-view.false above

pub returns-else-view-v : goal.returns-else-view-v
returns-else-view-v c =
    let v = c.args.view.now in
    let v_fits : SFits w64 c.args.v = search rules in
    let lo_fits : SFits w64 c.args.view.now.lo = search rules in
    let hi_fits : SFits w64 c.args.view.now.hi = search rules in
    let e = simp to_z-of_z at c.has-in-Var.ensures in
    let low = simp to_z-of_z at c.if-v-view.false in
    let high = simp to_z-of_z at c.if-view-v.false in
    has_inside v.store.now.box v.x.0 v.lo v.hi c.args.v c.args.arg c.in-Var.y c.has-in-Var.result c.in-Var.is c.if-y-view.false low high e

pub has-requires : goal.has-requires
has-requires c =
    let v = c.args.view.now in
    stands v.store.now.box v.x.0 v.lo v.hi c.args.arg c.in-Var.y c.in-Var.is c.requires

pub has-requires-in-Var : goal.has-requires-in-Var
has-requires-in-Var c =
    let v = c.args.view.now in
    stands v.store.now.box v.x.0 v.lo v.hi c.args.arg c.in-Var.y c.in-Var.is c.requires

pub returns-in-Num : goal.returns-in-Num
returns-in-Num c =
    let n_fits : SFits w64 c.in-Num.n = search rules in
    has_written (seen c.args.view.now) c.args.arg c.in-Num.n c.args.v c.in-Num.is c.ranges.v n_fits

pub returns-then-y-view : goal.returns-then-y-view
returns-then-y-view c =
    let v = c.args.view.now in
    let v_fits : SFits w64 c.args.v = search rules in
    let e = simp to_z-of_z at c.has.ensures in
    e ∙ sym (ap (λ d. has_value d c.args.v) (left_there v.store.now.box v.x.0 v.lo v.hi c.args.arg c.in-Var.y c.in-Var.is c.if-y-view.true))
