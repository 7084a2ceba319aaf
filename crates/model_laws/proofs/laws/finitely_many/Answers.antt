use Rattle.model_laws.proofs.Listed.{optimal_exact}
use Rattle.model_laws.proofs.laws.finitely_many.Goals as goal

pub returns : goal.returns
returns c = λ g later i a s. (let l = optimal_exact g later i a in (l.from s, l.to s))
