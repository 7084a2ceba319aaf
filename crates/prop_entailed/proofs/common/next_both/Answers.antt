use Rattle.std.proofs.Common.{◌≡◌, ◌∙◌, sym, rules}
use Rattle.std.proofs.lemmas.Int.{to_z-of_z}
use mir.Val.{SFits}
use mir.Syntax.{w64}
use Rattle.qc_model.specs.Refuted.{left_to}
use Rattle.fd_store.specs.Held.{values_from, least_of}
use Rattle.qc_refuter.proofs.Commons.{from_some, below_first, next_none, next_found}
use Rattle.prop_entailed.proofs.common.next_both.Goals as goal

pub returns-in-None-clause-none : goal.returns-in-None-clause-none
returns-in-None-clause-none c =
    let v_fits : SFits w64 c.args.v = search rules in
    let d = left_to c.args.store.now.box c.args.a in
    let e = left_to c.args.store.now.box c.args.b in
    let here : c.next.result ≡ least_of (values_from c.args.v e) = simp to_z-of_z at c.next.ensures in
    below_first d e c.args.v (sym c.in-None.is ∙ here)

pub returns-in-Some-clause-none : goal.returns-in-Some-clause-none
returns-in-Some-clause-none c =
    let v_fits : SFits w64 c.args.v = search rules in
    let u_fits : SFits w64 c.in-Some.u = search rules in
    let d = left_to c.args.store.now.box c.args.a in
    let e = left_to c.args.store.now.box c.args.b in
    let here : c.next.result ≡ least_of (values_from c.args.v e) = simp to_z-of_z at c.next.ensures in
    let there : c.next-in-Some.result ≡ least_of (values_from c.in-Some.u d) = simp to_z-of_z at c.next-in-Some.ensures in
    next_none d e c.args.v c.in-Some.u c.next-in-Some.result (from_some e c.args.v c.in-Some.u (sym c.in-Some.is ∙ here)) there

pub returns-in-Some-clause-some : goal.returns-in-Some-clause-some
returns-in-Some-clause-some c =
    let v_fits : SFits w64 c.args.v = search rules in
    let u_fits : SFits w64 c.in-Some.u = search rules in
    let d = left_to c.args.store.now.box c.args.a in
    let e = left_to c.args.store.now.box c.args.b in
    let here : c.next.result ≡ least_of (values_from c.args.v e) = simp to_z-of_z at c.next.ensures in
    let there : c.next-in-Some.result ≡ least_of (values_from c.in-Some.u d) = simp to_z-of_z at c.next-in-Some.ensures in
    next_found d e c.args.v c.in-Some.u c.next-in-Some.result (from_some e c.args.v c.in-Some.u (sym c.in-Some.is ∙ here)) there
