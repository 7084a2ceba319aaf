use Rattle.std.proofs.Common.{w64}
use Rattle.std.proofs.lemmas.Int.{to_z-of_z}
use mir.Val.{SFits}
use Rattle.best_judge.proofs.judge.against.Goals as goal

pub returns : goal.returns
returns c =
    let f : SFits w64 c.args.value = c.ranges.value in
    let said = simp to_z-of_z at c.verdict_of.ensures in
    said c.args.games.now.0 c.args.games.now.1 c.args.many c.args.lists.now c.requires.fits c.requires.size c.requires.asked c.in_ok-shown.ensures.shown
