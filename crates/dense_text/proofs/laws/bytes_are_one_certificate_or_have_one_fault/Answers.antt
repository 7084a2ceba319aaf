use Rattle.dense_text.proofs.Faults.{text_or_fault, never_both, one_of_certificates, one_fault}
use Rattle.dense_text.proofs.laws.bytes_are_one_certificate_or_have_one_fault.Goals as goal

pub returns-clause-either : goal.returns-clause-either
returns-clause-either c = text_or_fault

pub returns-clause-not_both : goal.returns-clause-not_both
returns-clause-not_both c = never_both

pub returns-clause-certificate : goal.returns-clause-certificate
returns-clause-certificate c = one_of_certificates

pub returns-clause-fault : goal.returns-clause-fault
returns-clause-fault c = one_fault
