use Rattle.text_reread.proofs.Refusals.{not_refused, no_fault}
use Rattle.text_reread.proofs.laws.items_are_not_refused.Goals as goal

pub returns-clause-each : goal.returns-clause-each
returns-clause-each c = λ text g items ts v h kind other. not_refused g v text items h kind other ts

pub returns-clause-first : goal.returns-clause-first
returns-clause-first c = λ text g items ts v h near. no_fault g v text items h ts near
