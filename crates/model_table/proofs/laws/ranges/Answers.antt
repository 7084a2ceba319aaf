use Rattle.model_table.proofs.Reached.{products_lie, products_reach, quotients_lie, quotients_reach, remainders_lie, absolutes_lie, absolutes_reach}
use Rattle.model_table.proofs.ReachedRemainders.{remainders_reach}
use Rattle.model_table.proofs.laws.ranges.Goals as goal

pub returns-clause-products : goal.returns-clause-products
returns-clause-products c = products_lie

pub returns-clause-product_ends : goal.returns-clause-product_ends
returns-clause-product_ends c = products_reach

pub returns-clause-quotients : goal.returns-clause-quotients
returns-clause-quotients c = quotients_lie

pub returns-clause-quotient_ends : goal.returns-clause-quotient_ends
returns-clause-quotient_ends c = quotients_reach

pub returns-clause-remainders : goal.returns-clause-remainders
returns-clause-remainders c = remainders_lie

pub returns-clause-remainder_ends : goal.returns-clause-remainder_ends
returns-clause-remainder_ends c = remainders_reach

pub returns-clause-absolutes : goal.returns-clause-absolutes
returns-clause-absolutes c = absolutes_lie

pub returns-clause-absolute_ends : goal.returns-clause-absolute_ends
returns-clause-absolute_ends c = absolutes_reach
