use Rattle.std.proofs.Common.{◌∙◌, ap}
use Rattle.dense_check.specs.Telling.{game_of}
use Rattle.dense_check.proofs.Stepping.{close_goes}
use Rattle.dense_check.proofs.machine.DenseMachine.close_line.Goals as goal

pub returns-clause-goes : goal.returns-clause-goes
returns-clause-goes c = close_goes c.args.self.now c.close_here-placed.new.self c.step_on.new.self c.close_here-placed.result c.args.bounded c.close_here-placed.ensures.rest c.close_here-placed.ensures.past c.close_here-placed.ensures.declared c.close_here-placed.ensures.closed c.step_on.ensures

pub returns-clause-same : goal.returns-clause-same
returns-clause-same c = ap game_of c.step_on.ensures ∙ ap game_of c.close_here-placed.ensures.rest
