use Rattle.text_reread.proofs.Cutting.{chunks_are_cut}
use Rattle.text_reread.proofs.laws.chunks_are_cut.Goals as goal

pub returns : goal.returns
returns c = chunks_are_cut
