use Rattle.std.proofs.Common.{rules}
use Rattle.std.proofs.lemmas.Int.{to_z-of_z}
use mir.Val.{SFits}
use mir.Syntax.{w64}
use Rattle.qc_model.specs.Refuted.{left_to}
use Rattle.prop_compare.proofs.Reduced.{least_small}
use Rattle.prop_compare.proofs.asking.are_over.Goals as goal

pub raised-requires-clause-number : goal.raised-requires-clause-number
raised-requires-clause-number c =
    let low_fits : SFits w64 c.least.result = search rules in
    simp to_z-of_z (least_small (left_to c.args.store.now.box c.args.a) c.least.result c.requires.a c.least.ensures)
