use Rattle.std.proofs.Common.{rules}
use Rattle.std.proofs.lemmas.Int.{to_z-of_z}
use mir.Val.{SFits}
use mir.Syntax.{w64}
use Rattle.prop_entailed.proofs.members.some_outside.Goals as goal

pub returns-in-Range : goal.returns-in-Range
returns-in-Range c =
    let low_fits : SFits w64 c.in-Range.low = search rules in
    let high_fits : SFits w64 c.in-Range.high = search rules in
    let e = simp to_z-of_z at c.some_beyond.ensures in
    rw c.in-Range.is e
