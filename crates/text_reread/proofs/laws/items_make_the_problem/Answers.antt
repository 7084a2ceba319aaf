use Rattle.text_reread.proofs.ReadGame.{same_game}
use Rattle.text_reread.proofs.laws.items_make_the_problem.Goals as goal

pub returns : goal.returns
returns c = λ text g items v h. same_game g v text items h
