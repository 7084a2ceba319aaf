use Rattle.std.proofs.Common.{rules}
use Rattle.std.proofs.lemmas.Int.{to_z-of_z}
use mir.Val.{SFits}
use mir.Syntax.{w64}
use Rattle.qc_refuter.proofs.Listed.{found_past, missed_past}
use Rattle.prop_element.proofs.members.place_past.Goals as goal

pub returns-in-Ok-clause-after : goal.returns-in-Ok-clause-after
returns-in-Ok-clause-after c j h m =
    let v_fits : SFits w64 c.args.v = search rules in
    let p = simp to_z-of_z at c.in-Ok.ensures.position in
    found_past c.args.numbers.now c.args.v c.in-Ok.k j c.requires.ascending p h m

pub returns-in-Err-clause-after : goal.returns-in-Err-clause-after
returns-in-Err-clause-after c j h m =
    let v_fits : SFits w64 c.args.v = search rules in
    let p = simp to_z-of_z at c.in-Err.ensures.position in
    missed_past c.args.numbers.now c.args.v c.in-Err.k j c.requires.ascending c.in-Err.ensures.bound p h m
