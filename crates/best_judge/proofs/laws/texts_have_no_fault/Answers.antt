use Rattle.best_judge.proofs.Exclusion.{no_fault}
use Rattle.best_judge.proofs.laws.texts_have_no_fault.Goals as goal

pub returns : goal.returns
returns c = no_fault c.bytes_are_one_list_or_have_one_fault.ensures.not_both
