use Rattle.std.proofs.Common.{◌∙◌, sym}
use Rattle.check_lines.proofs.Passed.{ended_told}
use Rattle.check_lines.proofs.machine.Machine.node_ended.Goals as goal

pub returns-then-is_in_case-clause-told : goal.returns-then-is_in_case-clause-told
returns-then-is_in_case-clause-told c = λ p ready t. ended_told c.args.self.now p ready (c.is_closed.ensures.0 c.if-is_closed.true) (sym c.is_in_case.ensures ∙ c.if-is_in_case.true) t
