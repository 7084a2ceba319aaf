use Rattle.std.proofs.Common.{w64, rules}
use mir.Val.{SFits}
use Rattle.qc_model.specs.Holds.{arg_value}
use Rattle.model_evaluation.proofs.Steps.{value_there, no_value}
use Rattle.model_evaluation.proofs.elements.value_at_is.Goals as goal

pub returns-in-Some : goal.returns-in-Some
returns-in-Some c =
    let v_fits : SFits w64 c.value_of.result = search rules in
    value_there (arg_value c.args.values.now) c.args.items.now c.args.k c.in-Some.item.now c.value_of.result c.args.number c.in-Some.ensures.lookup.0 c.in-Some.ensures.lookup.1 c.value_of.ensures v_fits c.ranges.number

pub returns-in-None : goal.returns-in-None
returns-in-None c = no_value (arg_value c.args.values.now) c.args.items.now c.args.k c.args.number c.in-None.ensures.lookup.0
