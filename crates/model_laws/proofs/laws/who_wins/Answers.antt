use Rattle.model_laws.proofs.Existence.{won_by_strategy, lost_by_counter, decided, best_exists, optimum_same, optimum_exists}
use Rattle.model_laws.proofs.Replies.{lost_once}
use Rattle.model_laws.proofs.Strategies.{optimal_keeps_rules}
use Rattle.model_laws.proofs.laws.who_wins.Goals as goal

pub returns-clause-won : goal.returns-clause-won
returns-clause-won c = won_by_strategy

pub returns-clause-lost : goal.returns-clause-lost
returns-clause-lost c = lost_by_counter

pub returns-clause-best : goal.returns-clause-best
returns-clause-best c = best_exists

pub returns-clause-optimum : goal.returns-clause-optimum
returns-clause-optimum c = optimum_same

pub returns-clause-decided : goal.returns-clause-decided
returns-clause-decided c = decided

pub returns-clause-one_reply : goal.returns-clause-one_reply
returns-clause-one_reply c = lost_once

pub returns-clause-has_optimum : goal.returns-clause-has_optimum
returns-clause-has_optimum c = optimum_exists

pub returns-clause-keeps_rules : goal.returns-clause-keeps_rules
returns-clause-keeps_rules c = optimal_keeps_rules
