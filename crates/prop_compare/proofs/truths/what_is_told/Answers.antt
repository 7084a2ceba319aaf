use Rattle.std.proofs.Common.{rules, sym, ◌∙◌, refl}
use Rattle.std.specs.Prelude.{int_lt, pos}
use Rattle.std.proofs.lemmas.Int.{to_z-of_z}
use mir.Val.{SFits}
use mir.Syntax.{w64}
use Rattle.qc_model.specs.Refuted.{left_to}
use Rattle.prop_compare.proofs.Decided.{one_truth}
use Rattle.prop_compare.proofs.truths.what_is_told.Goals as goal

pub returns-then-is_fixed-clause-some : goal.returns-then-is_fixed-clause-some
returns-then-is_fixed-clause-some c =
    let low_fits : SFits w64 c.least.result = search rules in
    simp to_z-of_z (one_truth (left_to c.args.store.now.box c.args.r) c.least.result (int_lt (pos 0) c.least.result) (sym c.is_fixed.ensures ∙ c.if-is_fixed.true) c.requires.truths c.least.ensures refl)
