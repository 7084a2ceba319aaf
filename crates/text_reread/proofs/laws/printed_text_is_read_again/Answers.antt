use Rattle.text_reread.proofs.Again.{read_again}
use Rattle.text_reread.proofs.laws.printed_text_is_read_again.Goals as goal

pub returns : goal.returns
returns c = read_again
