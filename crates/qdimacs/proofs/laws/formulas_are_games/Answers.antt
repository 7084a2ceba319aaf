use Rattle.qdimacs.proofs.Wins.{won_where_true}
use Rattle.qdimacs.proofs.laws.formulas_are_games.Goals as goal

pub returns : goal.returns
returns c = won_where_true
