use Rattle.std.proofs.Common.{arith}
use Rattle.qc_model.specs.declared.problem.Arg.TheVariants.{Var}
use Rattle.qc_model.specs.Arguments.{arg_variables}
use Rattle.model_arguments.specs.Written.{variable_numbers}
use Rattle.model_arguments.proofs.Growing.{flat_more, flat_end}
use Rattle.model_arguments.proofs.variables.push_items.Goals as goal

pub loop-item-preserved : goal.loop-item-preserved
loop-item-preserved c =
    flat_more arg_variables c.args.items.now c.loop-item.item-index (Var (record { 0 = 0 })) (variable_numbers c.loop-item.found.items) (variable_numbers c.push_arg.new.found.items) _ c.loop-item-test.true c.in_ok-push_arg.ensures c.loop-item.invariant

pub returns : goal.returns
returns c = flat_end arg_variables c.args.items.now c.loop-item.item-index (variable_numbers c.loop-item.found.items) _ (omega (arith, c.loop-item-test.false)) c.loop-item.invariant
