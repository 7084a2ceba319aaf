use Rattle.std.proofs.Common.{◌≡◌, rules, sym, ◌∙◌}
use Rattle.std.proofs.lemmas.Int.{to_z-of_z}
use mir.Val.{SFits}
use mir.Syntax.{w64}
use Rattle.qc_model.specs.Domains.{values_left}
use Rattle.fd_store.specs.Held.{values_from, least_of}
use Rattle.qc_refuter.proofs.Commons.{within_some, within_past, within_none}
use Rattle.qc_refuter.proofs.view.next_within.Goals as goal

pub returns-then-w-view : goal.returns-then-w-view
returns-then-w-view c =
    let v = c.args.view.now in
    let d = values_left v.store.now.box v.x.0 in
    let v_fits : SFits w64 c.args.v = search rules in
    let lo_fits : SFits w64 v.lo = search rules in
    let hi_fits : SFits w64 v.hi = search rules in
    let f_fits : SFits w64 c.later.result = search rules in
    let w_fits : SFits w64 c.in-Some.w = search rules in
    let e = simp to_z-of_z at c.later.ensures in
    let n : c.next.result ≡ least_of (values_from c.later.result d) = simp to_z-of_z at c.next.ensures in
    simp to_z-of_z (within_some d v.lo v.hi c.args.v c.later.result c.in-Some.w (e.first, e.second) e.least (sym c.in-Some.is ∙ n) (simp to_z-of_z at c.if-w-view.true))

pub returns-else-w-view : goal.returns-else-w-view
returns-else-w-view c =
    let v = c.args.view.now in
    let d = values_left v.store.now.box v.x.0 in
    let v_fits : SFits w64 c.args.v = search rules in
    let lo_fits : SFits w64 v.lo = search rules in
    let hi_fits : SFits w64 v.hi = search rules in
    let f_fits : SFits w64 c.later.result = search rules in
    let w_fits : SFits w64 c.in-Some.w = search rules in
    let e = simp to_z-of_z at c.later.ensures in
    let n : c.next.result ≡ least_of (values_from c.later.result d) = simp to_z-of_z at c.next.ensures in
    within_past d v.lo v.hi c.args.v c.later.result c.in-Some.w e.least (sym c.in-Some.is ∙ n) (simp to_z-of_z at c.if-w-view.false)

pub returns-in-None : goal.returns-in-None
returns-in-None c =
    let v = c.args.view.now in
    let d = values_left v.store.now.box v.x.0 in
    let v_fits : SFits w64 c.args.v = search rules in
    let lo_fits : SFits w64 v.lo = search rules in
    let f_fits : SFits w64 c.later.result = search rules in
    let e = simp to_z-of_z at c.later.ensures in
    let n : c.next.result ≡ least_of (values_from c.later.result d) = simp to_z-of_z at c.next.ensures in
    within_none d v.lo v.hi c.args.v c.later.result e.least (sym c.in-None.is ∙ n)
