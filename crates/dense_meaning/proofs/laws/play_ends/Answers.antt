use Rattle.dense_meaning.proofs.EndsOfPlay.{goal_lost, goal_won, player_stuck, opponent_stuck}
use Rattle.dense_meaning.proofs.laws.play_ends.Goals as goal

pub returns-clause-goal_lost : goal.returns-clause-goal_lost
returns-clause-goal_lost c = goal_lost

pub returns-clause-goal_won : goal.returns-clause-goal_won
returns-clause-goal_won c = goal_won

pub returns-clause-player : goal.returns-clause-player
returns-clause-player c = player_stuck

pub returns-clause-opponent : goal.returns-clause-opponent
returns-clause-opponent c = opponent_stuck
