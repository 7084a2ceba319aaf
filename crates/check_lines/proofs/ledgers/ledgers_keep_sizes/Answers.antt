use Rattle.check_lines.proofs.LedgerSizes.{first_keeps, keeps_one, verdict_laws}
use Rattle.check_lines.proofs.ledgers.ledgers_keep_sizes.Goals as goal

pub returns-clause-first : goal.returns-clause-first
returns-clause-first c = λ g valid. first_keeps g valid.domains

pub returns-clause-lines : goal.returns-clause-lines
returns-clause-lines c = λ g valid n d l h. keeps_one g (verdict_laws g valid) n d l h
