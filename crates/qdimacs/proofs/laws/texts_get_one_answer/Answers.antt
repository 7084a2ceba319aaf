use Rattle.qdimacs.proofs.Once.{one_file, each_text, never_both, one_refusal}
use Rattle.qdimacs.proofs.laws.texts_get_one_answer.Goals as goal

pub returns-clause-one_file : goal.returns-clause-one_file
returns-clause-one_file c = one_file

pub returns-clause-each : goal.returns-clause-each
returns-clause-each c = each_text

pub returns-clause-never_both : goal.returns-clause-never_both
returns-clause-never_both c = never_both

pub returns-clause-one_refusal : goal.returns-clause-one_refusal
returns-clause-one_refusal c = one_refusal
