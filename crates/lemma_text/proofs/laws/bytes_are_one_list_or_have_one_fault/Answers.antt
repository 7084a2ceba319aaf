use Rattle.lemma_text.proofs.Faults.{text_or_fault, never_both, one_of_lists, one_fault}
use Rattle.lemma_text.proofs.laws.bytes_are_one_list_or_have_one_fault.Goals as goal

pub returns-clause-either : goal.returns-clause-either
returns-clause-either c = text_or_fault

pub returns-clause-not_both : goal.returns-clause-not_both
returns-clause-not_both c = never_both

pub returns-clause-list : goal.returns-clause-list
returns-clause-list c = one_of_lists

pub returns-clause-fault : goal.returns-clause-fault
returns-clause-fault c = one_fault
