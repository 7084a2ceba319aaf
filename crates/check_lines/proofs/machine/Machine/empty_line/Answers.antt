use Rattle.std.proofs.Common.{◌∙◌, sym}
use Rattle.check_lines.proofs.Parts.{empty_tells}
use Rattle.check_lines.proofs.machine.Machine.empty_line.Goals as goal

pub returns-clause-tells : goal.returns-clause-tells
returns-clause-tells c = empty_tells c.args.self.now c.close_part.new.self (sym c.is_empty.ensures ∙ c.if-not-is_empty.false) c.close_part.ensures.tells
