use Rattle.qc_cascade.proofs.Placed.{sees_open, sees_under, sees_horizon}
use Rattle.qc_cascade.proofs.laws.nothing_ahead_is_missed.Goals as goal

pub returns-clause-open : goal.returns-clause-open
returns-clause-open c = sees_open

pub returns-clause-horizon : goal.returns-clause-horizon
returns-clause-horizon c = sees_horizon

pub returns-clause-under : goal.returns-clause-under
returns-clause-under c = sees_under
