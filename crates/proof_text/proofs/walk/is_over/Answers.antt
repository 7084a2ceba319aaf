use Rattle.proof_text.proofs.Walking.{head_goes_on}
use Rattle.proof_text.proofs.walk.is_over.Goals as goal

pub returns-in-Head-clause-owes : goal.returns-in-Head-clause-owes
returns-in-Head-clause-owes c = (λ e. absurd (cc), λ e. absurd (head_goes_on c.args.tree.now c.args.at c.in-Head.field-0 c.in-Head.is e))
