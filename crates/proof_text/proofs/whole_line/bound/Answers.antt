use Rattle.std.proofs.Common.{◌≡◌, arith, w64, to_z, of_z}
use Rattle.std.proofs.lemmas.Int.{to_z-of_z}
use Rattle.proof_text.proofs.WholeLines.{bound_reads}
use Rattle.proof_text.proofs.whole_line.bound.Goals as goal

pub returns : goal.returns
returns c =
    let i = c.in-Ok in
    let o = i.ensures.ok in
    let e : to_z w64 (of_z w64 i.lo) ≡ i.lo = grind (arith, to_z-of_z) in
    let f : to_z w64 (of_z w64 i.hi) ≡ i.hi = grind (arith, to_z-of_z) in
    rw (e, f) (bound_reads i.x i.lo i.hi c.args.text.now i.rest.now o.0 o.1 o.2 o.3)
