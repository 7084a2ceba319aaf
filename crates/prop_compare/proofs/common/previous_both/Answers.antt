use Rattle.std.proofs.Common.{◌≡◌, ◌∙◌, sym, rules}
use Rattle.std.proofs.lemmas.Int.{to_z-of_z}
use mir.Val.{SFits}
use mir.Syntax.{w64}
use Rattle.qc_model.specs.Refuted.{left_to}
use Rattle.fd_store.specs.Held.{values_up_to, greatest_of}
use Rattle.qc_refuter.proofs.Commons.{up_to_some, above_first, previous_none, previous_found}
use Rattle.prop_compare.proofs.common.previous_both.Goals as goal

pub returns-in-None-clause-none : goal.returns-in-None-clause-none
returns-in-None-clause-none c =
    let v_fits : SFits w64 c.args.v = search rules in
    let d = left_to c.args.store.now.box c.args.a in
    let e = left_to c.args.store.now.box c.args.b in
    let here : c.previous_of.result ≡ greatest_of (values_up_to c.args.v e) = simp to_z-of_z at c.previous_of.ensures in
    above_first d e c.args.v (sym c.in-None.is ∙ here)

pub returns-in-Some-clause-none : goal.returns-in-Some-clause-none
returns-in-Some-clause-none c =
    let v_fits : SFits w64 c.args.v = search rules in
    let u_fits : SFits w64 c.in-Some.u = search rules in
    let d = left_to c.args.store.now.box c.args.a in
    let e = left_to c.args.store.now.box c.args.b in
    let here : c.previous_of.result ≡ greatest_of (values_up_to c.args.v e) = simp to_z-of_z at c.previous_of.ensures in
    let there : c.previous_of-in-Some.result ≡ greatest_of (values_up_to c.in-Some.u d) = simp to_z-of_z at c.previous_of-in-Some.ensures in
    previous_none d e c.args.v c.in-Some.u c.previous_of-in-Some.result (up_to_some e c.args.v c.in-Some.u (sym c.in-Some.is ∙ here)) there

pub returns-in-Some-clause-some : goal.returns-in-Some-clause-some
returns-in-Some-clause-some c =
    let v_fits : SFits w64 c.args.v = search rules in
    let u_fits : SFits w64 c.in-Some.u = search rules in
    let d = left_to c.args.store.now.box c.args.a in
    let e = left_to c.args.store.now.box c.args.b in
    let here : c.previous_of.result ≡ greatest_of (values_up_to c.args.v e) = simp to_z-of_z at c.previous_of.ensures in
    let there : c.previous_of-in-Some.result ≡ greatest_of (values_up_to c.in-Some.u d) = simp to_z-of_z at c.previous_of-in-Some.ensures in
    previous_found d e c.args.v c.in-Some.u c.previous_of-in-Some.result (up_to_some e c.args.v c.in-Some.u (sym c.in-Some.is ∙ here)) there
