use Rattle.search_box.proofs.Goings.{placed_both, marks_both, steps_reach}
use Rattle.search_box.proofs.laws.steps_go_together.Goals as goal

pub returns-clause-placed : goal.returns-clause-placed
returns-clause-placed c = placed_both

pub returns-clause-marked : goal.returns-clause-marked
returns-clause-marked c = marks_both

pub returns-clause-reached : goal.returns-clause-reached
returns-clause-reached c = steps_reach
