use Rattle.std.proofs.Common.{◌≡◌, ◌≤◌, ap, sym, subst, ◌∙◌, rules, ℤ}
use Rattle.std.specs.Prelude.{unsigned_abs}
use Rattle.std.proofs.lemmas.Int.{to_z-of_z}
use mir.Val.{SFits}
use mir.Syntax.{w64}
use Rattle.qc_model.specs.Holds.{arg_value}
use Rattle.model_arguments.specs.Written.{arg_at}
use Rattle.model_evaluation.proofs.Valued.{value_written, value_is_small}
use Rattle.model_evaluation.proofs.reading.small_value.Goals as goal

pub returns : goal.returns
returns c =
    let vs = c.args.values.now in
    let args = c.args.args.now in
    let fits : SFits w64 c.value_of.result = search rules in
    let worth : c.value_of.result ≡ arg_value vs (arg_at args c.args.place) = c.value_of.ensures ∙ ap (arg_value vs) c.one_at.ensures in
    let P : ℤ → Type 0 = λ z. unsigned_abs z ≤ 1000000000 in
    simp to_z-of_z (record { value = worth ∙ value_written vs args c.args.place; small = subst P (sym worth) (value_is_small vs args c.args.place c.requires) })
