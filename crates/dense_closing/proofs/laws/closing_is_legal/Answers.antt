use Rattle.dense_closing.proofs.Standing.{ends_legal, ends_unmarked}
use Rattle.dense_closing.proofs.laws.closing_is_legal.Goals as goal

pub returns-clause-legal : goal.returns-clause-legal
returns-clause-legal c = ends_legal

pub returns-clause-unmarked : goal.returns-clause-unmarked
returns-clause-unmarked c = ends_unmarked
