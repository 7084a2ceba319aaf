use Rattle.std.proofs.Common.{◌∙◌, ◌++◌, ap, arith}
use Rattle.qc_model.specs.Arguments.{argument_variables}
use Rattle.model_arguments.specs.Written.{variable_numbers}
use Rattle.model_arguments.proofs.Growing.{flat_more, flat_end}
use Rattle.model_arguments.proofs.variables.own_variables.Goals as goal

pub loop-argument-preserved : goal.loop-argument-preserved
loop-argument-preserved c =
    flat_more argument_variables c.args.args.now c.loop-argument.argument-index c.argument-item.result (variable_numbers c.loop-argument.found.items) (variable_numbers c.push_argument.new.found.items) _ c.loop-argument-test.true (c.in_ok-push_argument.ensures ∙ ap (λ x. variable_numbers c.loop-argument.found.items ++ argument_variables x) c.argument-item.is) c.loop-argument.invariant

pub returns : goal.returns
returns c = flat_end argument_variables c.args.args.now c.loop-argument.argument-index (variable_numbers c.loop-argument.found.items) _ (omega (arith, c.loop-argument-test.false)) c.loop-argument.invariant
