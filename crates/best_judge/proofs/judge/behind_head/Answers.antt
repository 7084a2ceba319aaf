use Rattle.std.proofs.Common.{w64}
use Rattle.std.proofs.lemmas.Int.{to_z-of_z}
use mir.Val.{SFits}
use Rattle.best_judge.proofs.judge.behind_head.Goals as goal

pub returns-in-Some : goal.returns-in-Some
returns-in-Some c = let f : SFits w64 c.args.value = c.ranges.value in simp to_z-of_z at c.against.ensures

pub returns-in-None : goal.returns-in-None
returns-in-None c = let f : SFits w64 c.args.value = c.ranges.value in simp to_z-of_z at c.against_none.ensures
