use Rattle.std.proofs.Common.{rules, get_or, arith}
use Rattle.std.specs.Prelude.{pos}
use Rattle.std.proofs.lemmas.Int.{to_z-of_z}
use mir.Val.{SFits}
use mir.Syntax.{w64}
use Rattle.qc_refuter.proofs.Listed.{found_here, found_next, found_none}
use Rattle.qc_refuter.proofs.members.listed_from.Goals as goal

pub returns-in-Ok-clause-some : goal.returns-in-Ok-clause-some
returns-in-Ok-clause-some c =
    let v_fits : SFits w64 c.args.v = search rules in
    let p = simp to_z-of_z at c.in-Ok.ensures.position in
    simp to_z-of_z (found_here c.args.numbers.now c.args.v c.in-Ok.field-0 c.in-Ok.ensures.bound p)

pub returns-then-k-numbers-clause-some : goal.returns-then-k-numbers-clause-some
returns-then-k-numbers-clause-some c =
    let v_fits : SFits w64 c.args.v = search rules in
    let n_fits : SFits w64 (get_or c.args.numbers.now c.in-Err.k (pos 0)) = search rules in
    let p = simp to_z-of_z at c.in-Err.ensures.position in
    simp to_z-of_z (found_next c.args.numbers.now c.args.v c.in-Err.k c.requires c.in-Err.ensures.bound p (omega arith))

pub returns-else-k-numbers-clause-none : goal.returns-else-k-numbers-clause-none
returns-else-k-numbers-clause-none c =
    let v_fits : SFits w64 c.args.v = search rules in
    let p = simp to_z-of_z at c.in-Err.ensures.position in
    found_none c.args.numbers.now c.args.v c.in-Err.k c.requires c.in-Err.ensures.bound p (omega arith)
