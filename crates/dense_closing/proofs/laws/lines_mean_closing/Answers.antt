use Rattle.dense_closing.proofs.Lines.{close_placed, close_read, empty_stands, horizon_stands}
use Rattle.dense_closing.proofs.laws.lines_mean_closing.Goals as goal

pub returns-clause-close : goal.returns-clause-close
returns-clause-close c = close_placed

pub returns-clause-reads : goal.returns-clause-reads
returns-clause-reads c = close_read

pub returns-clause-empty : goal.returns-clause-empty
returns-clause-empty c = empty_stands

pub returns-clause-horizon : goal.returns-clause-horizon
returns-clause-horizon c = horizon_stands
