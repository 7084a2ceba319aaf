use Rattle.dense_text.proofs.Saying.{stands_first}
use Rattle.dense_text.proofs.reader.DenseReader.new.Goals as goal

pub returns : goal.returns
returns c = stands_first
