use Rattle.dense_closing.proofs.Closing.{closing_takes_ends, closing_finds}
use Rattle.dense_closing.proofs.laws.closing_leads_to_it.Goals as goal

pub returns-clause-ends : goal.returns-clause-ends
returns-clause-ends c = closing_takes_ends

pub returns-clause-finds : goal.returns-clause-finds
returns-clause-finds c = closing_finds
