use Rattle.std.proofs.Common.{arith}
use Rattle.search_scout.proofs.Going.{box_size}
use Rattle.search_scout.proofs.restarts.place_before.Goals as goal

pub keep_alone-requires : goal.keep_alone-requires
keep_alone-requires c =
    let l = c.args.level.now in
    let size = box_size l.problem.now _ _ c.loop-at.invariant.went.sound in
    omega (arith, size, c.loop-at-test.true, l.rises, l.stop_within)
