use Rattle.model_laws.proofs.Seen.{visible_own}
use Rattle.model_laws.proofs.Validity.{valid_lists, valid_own, valid_bottlenecks}
use Rattle.model_laws.proofs.laws.lists_are_visible.Goals as goal

pub returns-clause-lists : goal.returns-clause-lists
returns-clause-lists c = valid_lists

pub returns-clause-own : goal.returns-clause-own
returns-clause-own c = valid_own

pub returns-clause-visible_is_own : goal.returns-clause-visible_is_own
returns-clause-visible_is_own c = visible_own

pub returns-clause-bottlenecks : goal.returns-clause-bottlenecks
returns-clause-bottlenecks c = valid_bottlenecks
