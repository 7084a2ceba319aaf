use Rattle.check_lines.specs.Machine.{game_of, before_of}
use Rattle.joins.specs.declared.leaves.Found.TheVariants.{Lost}
use Rattle.std.proofs.Common.{refl}
use Rattle.check_lines.proofs.AtNodes.{stuck_tells, none_stuck}
use Rattle.check_lines.proofs.machine.Machine.stuck_goal.Goals as goal

pub returns-clause-tells : goal.returns-clause-tells
returns-clause-tells c =
    let m = c.args.self.now in
    stuck_tells m m.joins Lost c.requires.node (λ j xs ne h. h) refl c.close_node.new.self c.close_node.ensures.tells (none_stuck (game_of m) m.number (before_of m) c.requires.last)
