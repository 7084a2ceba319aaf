use Rattle.dense_text.proofs.OneText.{nothing_after}
use Rattle.dense_text.proofs.laws.no_text_begins_another.Goals as goal

pub returns : goal.returns
returns c = nothing_after
