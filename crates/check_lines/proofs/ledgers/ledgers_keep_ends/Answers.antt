use Rattle.check_lines.proofs.LedgerSizes.{verdict_laws}
use Rattle.check_lines.proofs.EndSizes.{first_ends, ends_one, sizes_from}
use Rattle.check_lines.proofs.ledgers.ledgers_keep_ends.Goals as goal

pub returns-clause-first : goal.returns-clause-first
returns-clause-first c = first_ends

pub returns-clause-lines : goal.returns-clause-lines
returns-clause-lines c = λ g valid n e p l k h. ends_one g valid (verdict_laws g valid) n e p l k h

pub returns-clause-sizes : goal.returns-clause-sizes
returns-clause-sizes c = sizes_from
