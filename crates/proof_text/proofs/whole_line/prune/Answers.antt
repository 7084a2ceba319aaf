use Rattle.std.proofs.Common.{◌≡◌, arith, w64, to_z, of_z}
use Rattle.std.proofs.lemmas.Int.{to_z-of_z}
use Rattle.proof_text.proofs.WholeLines.{prune_reads}
use Rattle.proof_text.proofs.whole_line.prune.Goals as goal

pub returns : goal.returns
returns c =
    let i = c.in-Ok in
    let o = i.ensures.ok in
    let d = c.in-Ok-place.ensures.ok in
    let e : to_z w64 (of_z w64 i.lo) ≡ i.lo = grind (arith, to_z-of_z) in
    let f : to_z w64 (of_z w64 i.hi) ≡ i.hi = grind (arith, to_z-of_z) in
    rw (e, f) (prune_reads i.x i.lo i.hi (record { 0 = c.in-Ok-place.c }) c.args.text.now i.rest.now c.in-Ok-place.rest.now o.0 d.0 o.1 o.2 o.3 d.1)
