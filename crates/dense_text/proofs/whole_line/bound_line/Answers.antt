use Rattle.std.proofs.Common.{◌≡◌, sym, ◌∙◌, arith, w64, to_z, of_z}
use Rattle.std.proofs.lemmas.Int.{to_z-of_z}
use Rattle.dense_text.proofs.WholeLines.{bound_begins}
use Rattle.dense_text.proofs.whole_line.bound_line.Goals as goal

pub returns : goal.returns
returns c =
    let first = c.in-Some in
    let second = c.in-Some-number in
    let third = c.in-Some-number-2 in
    let d : to_z w64 (of_z w64 first.x) ≡ first.x = grind (arith, to_z-of_z) in
    let e : to_z w64 (of_z w64 second.lo) ≡ second.lo = grind (arith, to_z-of_z) in
    let f : to_z w64 (of_z w64 third.hi) ≡ third.hi = grind (arith, to_z-of_z) in
    rw (e, f)
    (bound_begins c.args.due c.variable-x.result first.x second.lo third.hi c.args.bytes.now first.rest.now second.rest.now third.rest.now (sym c.if-not-may.ensures) (c.variable-x.ensures ∙ d) first.ensures second.ensures third.ensures)
