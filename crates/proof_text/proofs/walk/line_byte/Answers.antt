use Rattle.proof_text.proofs.Walking.{line_more}
use Rattle.proof_text.proofs.walk.line_byte.Goals as goal

pub returns-in-More-clause-goes : goal.returns-in-More-clause-goes
returns-in-More-clause-goes c = λ tree. line_more tree c.args.part c.in-More.part c.args.place c.args.byte c.in-More.ensures
