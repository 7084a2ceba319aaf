use Rattle.lemma_text.proofs.Saying.{stands_first}
use Rattle.lemma_text.proofs.reader.LemmaReader.new.Goals as goal

pub returns : goal.returns
returns c = stands_first
