use Rattle.dense_ledger.proofs.Root.{all_right}
use Rattle.dense_ledger.proofs.laws.ledgers_are_right.Goals as goal

pub returns : goal.returns
returns c = all_right
