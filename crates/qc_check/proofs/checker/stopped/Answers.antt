use Rattle.std.proofs.Common.{subst, [], append-nil}
use Rattle.proof_text.specs.Places.{IsNotACertificate, IsTooDeep}
use Rattle.qc_check.specs.Checking.{IsStopped}
use Rattle.qc_check.proofs.checker.stopped.Goals as goal

pub returns-in-Bad : goal.returns-in-Bad
returns-in-Bad c = λ g bytes h. subst (IsNotACertificate c.args.at) (append-nil bytes) ((subst (λ s. IsStopped s c.args.at bytes) c.in-Bad.is h) [])

pub returns-in-Deep : goal.returns-in-Deep
returns-in-Deep c = λ g bytes h. subst (IsTooDeep c.args.at) (append-nil bytes) ((subst (λ s. IsStopped s c.args.at bytes) c.in-Deep.is h) [])
