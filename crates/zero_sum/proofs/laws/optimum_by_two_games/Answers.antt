use Rattle.zero_sum.proofs.Law.{optimum_by_two}
use Rattle.zero_sum.proofs.laws.optimum_by_two_games.Goals as goal

pub returns : goal.returns
returns c = optimum_by_two
