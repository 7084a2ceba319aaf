use Rattle.check_lines.proofs.SameTold.{closed_tells}
use Rattle.check_lines.proofs.machine.Machine.close_node.Goals as goal

pub returns-clause-tells : goal.returns-clause-tells
returns-clause-tells c = closed_tells c.args.self.now
