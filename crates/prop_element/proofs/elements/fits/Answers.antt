use Rattle.std.proofs.Common.{◌≡◌, ◌∙◌, rules, sym, get_or}
use Rattle.std.specs.Prelude.{pos}
use Rattle.std.proofs.lemmas.Int.{to_z-of_z}
use mir.Val.{SFits}
use mir.Syntax.{w64}
use Rattle.qc_model.specs.Domains.{has_value}
use Rattle.qc_model.specs.Refuted.{left_to}
use Rattle.prop_element.proofs.Supports.{unfit_by_number}
use Rattle.prop_element.proofs.elements.fits.Goals as goal

pub returns-else-has : goal.returns-else-has
returns-else-has c =
    let n_fits : SFits w64 (get_or c.args.numbers.now c.args.k (pos 0)) = search rules in
    let h : c.has.result ≡ has_value (left_to c.args.store.now.box c.args.r) (get_or c.args.numbers.now c.args.k (pos 0)) = simp to_z-of_z at c.has.ensures in
    c.if-has.false ∙ sym (unfit_by_number (left_to c.args.store.now.box c.args.a) c.args.numbers.now (left_to c.args.store.now.box c.args.r) c.args.k (sym h ∙ c.if-has.false))
