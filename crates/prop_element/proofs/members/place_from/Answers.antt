use Rattle.std.proofs.Common.{rules}
use Rattle.std.proofs.lemmas.Int.{to_z-of_z}
use mir.Val.{SFits}
use mir.Syntax.{w64}
use Rattle.qc_refuter.proofs.Listed.{found_from, missed_from}
use Rattle.prop_element.proofs.members.place_from.Goals as goal

pub returns-in-Ok-clause-before : goal.returns-in-Ok-clause-before
returns-in-Ok-clause-before c j h =
    let v_fits : SFits w64 c.args.v = search rules in
    let p = simp to_z-of_z at c.in-Ok.ensures.position in
    found_from c.args.numbers.now c.args.v c.in-Ok.k j c.requires.ascending c.in-Ok.ensures.bound p h

pub returns-in-Err-clause-before : goal.returns-in-Err-clause-before
returns-in-Err-clause-before c j h =
    let v_fits : SFits w64 c.args.v = search rules in
    let p = simp to_z-of_z at c.in-Err.ensures.position in
    missed_from c.args.numbers.now c.args.v c.in-Err.k j c.requires.ascending c.in-Err.ensures.bound p h
