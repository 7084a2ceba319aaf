use Rattle.dense_closing.proofs.Standing.{closed_fair, none_blocks}
use Rattle.dense_closing.proofs.laws.closing_tells_of_plays.Goals as goal

pub returns-clause-fair : goal.returns-clause-fair
returns-clause-fair c = closed_fair

pub returns-clause-blocks : goal.returns-clause-blocks
returns-clause-blocks c = none_blocks
