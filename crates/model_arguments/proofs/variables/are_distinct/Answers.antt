use Rattle.model_arguments.specs.Written.{variable_numbers}
use Rattle.model_arguments.proofs.Apart.{apart_distinct}
use Rattle.model_arguments.proofs.variables.are_distinct.Goals as goal

pub returns : goal.returns
returns c = rw c.are_apart.ensures (apart_distinct (variable_numbers c.args.variables.now))
