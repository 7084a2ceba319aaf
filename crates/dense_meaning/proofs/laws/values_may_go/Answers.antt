use Rattle.dense_meaning.proofs.Removing.{remove_jointly, remove_through, remove_own}
use Rattle.dense_meaning.proofs.WholePlays.{refuted_keeps, closing_keeps}
use Rattle.dense_meaning.proofs.Legal.{legal_removal}
use Rattle.dense_meaning.proofs.laws.values_may_go.Goals as goal

pub returns-clause-whole : goal.returns-clause-whole
returns-clause-whole c = remove_jointly

pub returns-clause-through : goal.returns-clause-through
returns-clause-through c = remove_through

pub returns-clause-own : goal.returns-clause-own
returns-clause-own c = remove_own

pub returns-clause-refuted : goal.returns-clause-refuted
returns-clause-refuted c = refuted_keeps

pub returns-clause-in_force : goal.returns-clause-in_force
returns-clause-in_force c = legal_removal

pub returns-clause-closed : goal.returns-clause-closed
returns-clause-closed c = closing_keeps
