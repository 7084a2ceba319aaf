use Rattle.check_lines.proofs.Passed.{due_told}
use Rattle.check_lines.proofs.machine.Machine.scope_due.Goals as goal

pub returns-then-self-scopes-clause-told : goal.returns-then-self-scopes-clause-told
returns-then-self-scopes-clause-told c = λ p t. due_told c.args.self.now p c.requires.due t
