use Rattle.check_lines.proofs.SameTold.{left_tells}
use Rattle.check_lines.proofs.machine.Machine.leave_node.Goals as goal

pub returns-clause-tells : goal.returns-clause-tells
returns-clause-tells c = λ p t. left_tells c.args.self.now c.go_up.new.self p c.requires.closed c.go_up.ensures.tells t
