use Rattle.std.proofs.Common.{rules}
use Rattle.std.proofs.lemmas.Int.{to_z-of_z}
use mir.Val.{SFits}
use mir.Syntax.{w64}
use Rattle.proof_text.proofs.PartLines.{constraint_goes, prune_ends}
use Rattle.proof_text.proofs.part_line.constraint_byte.Goals as goal

pub returns-in-More : goal.returns-in-More
returns-in-More c =
    let lo_fits : SFits w64 c.args.lo = search rules in
    let hi_fits : SFits w64 c.args.hi = search rules in
    simp to_z-of_z (constraint_goes c.args.x c.args.lo c.args.hi c.args.c c.in-More.c c.args.byte c.requires c.in-More.ensures)

pub returns-in-Done : goal.returns-in-Done
returns-in-Done c =
    let lo_fits : SFits w64 c.args.lo = search rules in
    let hi_fits : SFits w64 c.args.hi = search rules in
    simp to_z-of_z (prune_ends c.args.x c.args.lo c.args.hi c.args.c c.args.byte c.in-Done.c c.requires c.in-Done.ensures)
