use Rattle.joins.proofs.Ends.{verdict_of_ends, ends_node, ends_join, ends_sizes}
use Rattle.joins.proofs.laws.numbers_come_from_ends.Goals as goal

pub returns-clause-verdict : goal.returns-clause-verdict
returns-clause-verdict c = verdict_of_ends

pub returns-clause-node : goal.returns-clause-node
returns-clause-node c = ends_node

pub returns-clause-join : goal.returns-clause-join
returns-clause-join c = ends_join

pub returns-clause-sizes : goal.returns-clause-sizes
returns-clause-sizes c = ends_sizes
