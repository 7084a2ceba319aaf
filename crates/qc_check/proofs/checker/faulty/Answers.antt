use Rattle.std.proofs.Common.{subst}
use Rattle.qc_check.specs.Checking.{IsStopped}
use Rattle.qc_check.proofs.Ends.{bad_feeds, deep_feeds}
use Rattle.qc_check.proofs.checker.faulty.Goals as goal

pub returns-in-Bad-clause-feeds : goal.returns-in-Bad-clause-feeds
returns-in-Bad-clause-feeds c = λ bytes h. bad_feeds c.args.at bytes (subst (λ s. IsStopped s c.args.at bytes) c.in-Bad.is h)

pub returns-in-Deep-clause-feeds : goal.returns-in-Deep-clause-feeds
returns-in-Deep-clause-feeds c = λ bytes h. deep_feeds c.args.at bytes (subst (λ s. IsStopped s c.args.at bytes) c.in-Deep.is h)
