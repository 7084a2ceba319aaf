use Rattle.dense_text.proofs.Telling.{all_told}
use Rattle.dense_text.proofs.laws.each_standing_is_right.Goals as goal

pub returns : goal.returns
returns c = all_told
