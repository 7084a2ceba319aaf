use Rattle.dense_check.proofs.Ending.{nest_part_after, over_after, lost_own}
use Rattle.dense_check.proofs.machine.DenseMachine.lost_end.Goals as goal

pub part_over-requires : goal.part_over-requires
part_over-requires c = record { part = nest_part_after c.args.self.now c.add_lost.new.self lost_own c.add_lost.ensures.stays c.requires.part }

pub returns-clause-goes : goal.returns-clause-goes
returns-clause-goes c = over_after c.part_over.result c.args.self.now c.add_lost.new.self c.part_over.new.self lost_own c.add_lost.ensures.same c.part_over.ensures.same c.add_lost.ensures.stays c.part_over.ensures.goes
