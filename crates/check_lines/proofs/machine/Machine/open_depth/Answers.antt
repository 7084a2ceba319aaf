use Rattle.std.proofs.Common.{◌∙◌, sym}
use Rattle.check_lines.proofs.Passed.{open_told}
use Rattle.check_lines.proofs.machine.Machine.open_depth.Goals as goal

pub returns-in_default : goal.returns-in_default
returns-in_default c = λ d t. open_told c.args.self.now d c.in_default.not-Closed c.in_default.not-Ended c.in_default.not-Wrong t ∙ sym c.len.ensures.size
