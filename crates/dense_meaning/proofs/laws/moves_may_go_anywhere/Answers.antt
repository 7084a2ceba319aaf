use Rattle.dense_meaning.proofs.OwnMoves.{moves_anywhere}
use Rattle.dense_meaning.proofs.laws.moves_may_go_anywhere.Goals as goal

pub returns : goal.returns
returns c = moves_anywhere
