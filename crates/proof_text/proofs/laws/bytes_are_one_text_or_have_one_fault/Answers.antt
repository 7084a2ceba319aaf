use Rattle.proof_text.proofs.EachText.{text_or_fault, never_both, one_of_texts, one_of_faults}
use Rattle.proof_text.proofs.laws.bytes_are_one_text_or_have_one_fault.Goals as goal

pub returns-clause-either : goal.returns-clause-either
returns-clause-either c = text_or_fault

pub returns-clause-not_both : goal.returns-clause-not_both
returns-clause-not_both c = never_both

pub returns-clause-certificate : goal.returns-clause-certificate
returns-clause-certificate c = one_of_texts

pub returns-clause-fault : goal.returns-clause-fault
returns-clause-fault c = one_of_faults
