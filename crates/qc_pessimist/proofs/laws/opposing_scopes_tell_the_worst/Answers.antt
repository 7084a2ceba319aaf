use Rattle.qc_pessimist.proofs.AtWorst.{reads_at_worst}
use Rattle.qc_pessimist.proofs.NoBetter.{no_better_at_worst}
use Rattle.qc_pessimist.proofs.Valid.{stays_valid}
use Rattle.qc_pessimist.proofs.laws.opposing_scopes_tell_the_worst.Goals as goal

pub returns-clause-reads : goal.returns-clause-reads
returns-clause-reads c = reads_at_worst

pub returns-clause-valid : goal.returns-clause-valid
returns-clause-valid c = stays_valid

pub returns-clause-law : goal.returns-clause-law
returns-clause-law c = no_better_at_worst
