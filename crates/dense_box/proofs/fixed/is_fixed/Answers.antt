use Rattle.std.proofs.Common.{arith}
use Rattle.box_laws.proofs.Readings.{box_size}
use Rattle.dense_box.proofs.fixed.is_fixed.Goals as goal

pub are_single-requires-clause-bound : goal.are_single-requires-clause-bound
are_single-requires-clause-bound c =
    omega (arith, box_size c.args.level.now.problem.now c.args.store.now.box c.requires, c.args.level.now.stop_within)

pub are_single-requires-clause-few : goal.are_single-requires-clause-few
are_single-requires-clause-few c =
    omega (arith, box_size c.args.level.now.problem.now c.args.store.now.box c.requires, c.known.ensures.few_variables)
