use Rattle.std.proofs.Common.{subst}
use Rattle.qc_check.specs.Checking.{IsCheckingBy}
use Rattle.qc_check.proofs.progress.Checker.fed.Goals as goal

pub returns-in-None-clause-feeds : goal.returns-in-None-clause-feeds
returns-in-None-clause-feeds c = λ bytes h. (subst (λ s. IsCheckingBy s c.args.self.now bytes) c.in-None.is h).begins

pub returns-in-Some-clause-feeds : goal.returns-in-Some-clause-feeds
returns-in-Some-clause-feeds c = λ bytes h. c.faulty.ensures.feeds bytes (subst (λ s. IsCheckingBy s c.args.self.now bytes) c.in-Some.is h)
