use Rattle.lemma_text.proofs.OneList.{one_text}
use Rattle.lemma_text.proofs.laws.each_text_is_of_one_list.Goals as goal

pub returns : goal.returns
returns c = one_text
