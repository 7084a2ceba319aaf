use Rattle.std.proofs.Common.{subst}
use Rattle.dense_judge.specs.Checking.{IsStopped}
use Rattle.dense_judge.proofs.Ends.{now_stopped}
use Rattle.dense_judge.proofs.checker.stopped.Goals as goal

pub returns-in-Bad : goal.returns-in-Bad
returns-in-Bad c = λ g bytes h. now_stopped c.args.at bytes (subst (λ s. IsStopped s c.args.at bytes) c.in-Bad.is h)

pub returns-in-Spent : goal.returns-in-Spent
returns-in-Spent c = λ g bytes h. absurd (subst (λ s. IsStopped s c.args.at bytes) c.in-Spent.is h)
