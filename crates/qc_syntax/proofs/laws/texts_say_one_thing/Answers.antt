use Rattle.qc_syntax.proofs.EachText.{reads_or_refuses, reads_valid}
use Rattle.qc_syntax.proofs.OneThing.{reads_one, never_both, refuses_one}
use Rattle.qc_syntax.proofs.laws.texts_say_one_thing.Goals as goal

pub returns-clause-either : goal.returns-clause-either
returns-clause-either c = reads_or_refuses

pub returns-clause-not_both : goal.returns-clause-not_both
returns-clause-not_both c = never_both

pub returns-clause-problem : goal.returns-clause-problem
returns-clause-problem c = reads_one

pub returns-clause-refusal : goal.returns-clause-refusal
returns-clause-refusal c = refuses_one

pub returns-clause-valid : goal.returns-clause-valid
returns-clause-valid c = reads_valid
