use Rattle.lemma_check.proofs.Told.{entries_told, lists_told, wrong_stays}
use Rattle.lemma_check.proofs.laws.items_tell_of_lists.Goals as goal

pub returns-clause-entries : goal.returns-clause-entries
returns-clause-entries c = entries_told

pub returns-clause-lists : goal.returns-clause-lists
returns-clause-lists c = lists_told

pub returns-clause-wrong : goal.returns-clause-wrong
returns-clause-wrong c = wrong_stays
