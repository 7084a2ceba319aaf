use Rattle.std.proofs.Common.{◌∙◌, sym, ap, rules}
use Rattle.std.proofs.lemmas.Int.{to_z-of_z}
use mir.Val.{SFits}
use mir.Syntax.{w64}
use Rattle.qc_model.specs.Holds.{arg_value}
use Rattle.model_arguments.proofs.Written.{one_fill}
use Rattle.dense_alike.proofs.pluses.known_at.Goals as goal

pub returns : goal.returns
returns c =
    let f = arg_value c.args.values.now in
    let fits : SFits w64 c.value_of.result = search rules in
    simp to_z-of_z (c.value_of.ensures ∙ (ap f c.one_at.ensures ∙ sym (one_fill f c.args.args.now c.args.place)))
