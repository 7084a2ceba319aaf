use Rattle.dense_closing.proofs.Closing.{end_may_go}
use Rattle.dense_closing.proofs.laws.refuted_ends_may_go.Goals as goal

pub returns : goal.returns
returns c = end_may_go
