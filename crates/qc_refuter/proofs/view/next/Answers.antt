use Rattle.std.proofs.Common.{ap, sym, ◌∙◌, rules}
use Rattle.std.proofs.lemmas.Int.{to_z-of_z}
use mir.Val.{SFits}
use mir.Syntax.{w64}
use Rattle.fd_store.specs.Held.{values_from, least_of}
use Rattle.qc_refuter.proofs.Seen.{left_view, left_there}
use Rattle.qc_refuter.proofs.view.next.Goals as goal

pub returns-then-y-view : goal.returns-then-y-view
returns-then-y-view c =
    let v = c.args.view.now in
    let v_fits : SFits w64 c.args.v = search rules in
    let e = simp to_z-of_z at c.next_within.ensures in
    e ∙ sym (ap (λ d. least_of (values_from c.args.v d)) (left_view v.store.now.box v.x.0 v.lo v.hi c.args.arg c.in-Var.y c.in-Var.is c.if-y-view.true))

pub returns-else-y-view : goal.returns-else-y-view
returns-else-y-view c =
    let v = c.args.view.now in
    let v_fits : SFits w64 c.args.v = search rules in
    let e = simp to_z-of_z at c.next.ensures in
    e ∙ sym (ap (λ d. least_of (values_from c.args.v d)) (left_there v.store.now.box v.x.0 v.lo v.hi c.args.arg c.in-Var.y c.in-Var.is c.if-y-view.false))
