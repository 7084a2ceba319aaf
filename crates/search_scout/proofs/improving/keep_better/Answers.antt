use Rattle.std.proofs.Common.{arith}
use Rattle.search_scout.proofs.Going.{within_box}
use Rattle.search_scout.proofs.improving.keep_better.Goals as goal

pub give_up-requires : goal.give_up-requires
give_up-requires c =
    let l = c.args.level.now in
    let within = within_box l.problem.now _ _ l.stop c.requires.sound l.stop_within in
    omega (arith, c.requires.objective, within)
