use Rattle.std.proofs.Common.{◌∙◌, ap}
use Rattle.qc_model.specs.Arguments.{variables_of}
use Rattle.model_arguments.specs.Written.{variable_numbers}
use Rattle.model_arguments.proofs.Bools.{not_false}
use Rattle.dense_close.proofs.Found.{clad_of}
use Rattle.dense_close.proofs.refuting.is_settled.Goals as goal

pub returns-clause-some : goal.returns-clause-some
returns-clause-some c = λ h r e.
    clad_of c.own.result.now (variables_of r.args) c.is_empty.result (ap variable_numbers c.own.ensures ∙ c.args.task.now.index_is.own_are c.args.c.0 r e) c.is_empty.ensures (not_false c.is_empty.result h)
