use Rattle.dense_meaning.proofs.Strict.{root_has_all}
use Rattle.dense_meaning.proofs.laws.boxes_keep_all_plays.Goals as goal

pub returns-clause-root : goal.returns-clause-root
returns-clause-root c = root_has_all

pub returns-clause-move_on : goal.returns-clause-move_on
returns-clause-move_on c = λ g s later i a t box m f w p. f w (t, m, p)

pub returns-clause-smaller : goal.returns-clause-smaller
returns-clause-smaller c = λ g later i a box small at keeps f w p. keeps a w at p (f w p)
