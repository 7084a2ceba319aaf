use Rattle.std.proofs.Common.{w64}
use Rattle.std.proofs.lemmas.Int.{to_z-of_z}
use mir.Val.{SFits}
use Rattle.best_judge.proofs.judge.against_none.Goals as goal

pub returns : goal.returns
returns c =
    let f : SFits w64 c.args.value = c.ranges.value in
    let said = simp to_z-of_z at c.no_verdict.ensures in
    said c.args.problem.now c.args.problem.now c.args.many c.args.lists.now c.requires.fits c.requires.size c.requires.asked c.in_ok-shown.ensures.shown
