use Rattle.dense_commands.proofs.Heads.{head_told}
use Rattle.dense_commands.proofs.head.heading_of.Goals as goal

pub returns-clause-head : goal.returns-clause-head
returns-clause-head g c = rw (c.told_by.ensures) (head_told _ _ c.in_ok-count.ensures.front)
