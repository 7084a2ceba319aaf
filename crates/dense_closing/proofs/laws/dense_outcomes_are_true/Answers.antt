use Rattle.dense_closing.proofs.Outcomes.{dense_true}
use Rattle.dense_closing.proofs.laws.dense_outcomes_are_true.Goals as goal

pub returns : goal.returns
returns c = dense_true
