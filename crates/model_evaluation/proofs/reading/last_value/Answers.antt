use Rattle.std.proofs.Common.{ap, ◌∙◌, rules}
use Rattle.std.proofs.lemmas.Int.{to_z-of_z}
use mir.Val.{SFits}
use mir.Syntax.{w64}
use Rattle.qc_model.specs.Holds.{arg_value}
use Rattle.model_evaluation.proofs.Valued.{last_written}
use Rattle.model_evaluation.proofs.reading.last_value.Goals as goal

pub returns : goal.returns
returns c =
    let fits : SFits w64 c.value_of.result = search rules in
    simp to_z-of_z (c.value_of.ensures ∙ ap (arg_value c.args.values.now) c.last_one.ensures ∙ last_written c.args.values.now c.args.args.now)
