use Rattle.std.proofs.Common.{◌≡◌, ◌∙◌, rules, sym}
use Rattle.std.proofs.lemmas.Int.{to_z-of_z}
use mir.Val.{SFits}
use mir.Syntax.{w64}
use Rattle.qc_model.specs.Domains.{has_value}
use Rattle.qc_model.specs.Refuted.{left_to}
use Rattle.prop_element.proofs.ChosenItems.{least_is_common}
use Rattle.prop_element.proofs.choices.least_of_both.Goals as goal

pub returns-then-has-clause-some : goal.returns-then-has-clause-some
returns-then-has-clause-some c =
    let v_fits : SFits w64 c.least-v.result = search rules in
    let d = left_to c.args.store.now.box c.args.item in
    let e = left_to c.args.store.now.box c.args.r in
    let h : c.has.result ≡ has_value (left_to c.args.store.now.box c.args.r) c.least-v.result = simp to_z-of_z at c.has.ensures in
    simp to_z-of_z (least_is_common d e c.least-v.result c.requires.item c.least-v.ensures (sym h ∙ c.if-has.true))
