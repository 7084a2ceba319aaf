use Rattle.dense_ledger.proofs.Whole.{ended_whole}
use Rattle.dense_ledger.proofs.laws.ended_lines_are_whole.Goals as goal

pub returns : goal.returns
returns c = ended_whole
