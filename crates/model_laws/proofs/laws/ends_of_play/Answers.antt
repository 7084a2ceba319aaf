use Rattle.model_laws.proofs.Ends.{valid_goal, stuck_exists, stuck_forall}
use Rattle.model_laws.proofs.laws.ends_of_play.Goals as goal

pub returns-clause-goal : goal.returns-clause-goal
returns-clause-goal c = valid_goal

pub returns-clause-stuck_player : goal.returns-clause-stuck_player
returns-clause-stuck_player c = stuck_exists

pub returns-clause-stuck_opponent : goal.returns-clause-stuck_opponent
returns-clause-stuck_opponent c = stuck_forall
