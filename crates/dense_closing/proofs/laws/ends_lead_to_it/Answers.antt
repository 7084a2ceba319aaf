use Rattle.dense_closing.proofs.Keeping.{steps_keep, reach, show_none, show_hopeless}
use Rattle.dense_closing.proofs.laws.ends_lead_to_it.Goals as goal

pub returns-clause-keep : goal.returns-clause-keep
returns-clause-keep c = steps_keep

pub returns-clause-reach : goal.returns-clause-reach
returns-clause-reach c = reach

pub returns-clause-none : goal.returns-clause-none
returns-clause-none c = show_none

pub returns-clause-hopeless : goal.returns-clause-hopeless
returns-clause-hopeless c = show_hopeless
