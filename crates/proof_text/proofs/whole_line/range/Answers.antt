use Rattle.std.proofs.Common.{◌≡◌, sym, subst, arith, w64, to_z, of_z}
use Rattle.std.specs.Prelude.{ℤ}
use Rattle.std.proofs.lemmas.Int.{to_z-of_z}
use Rattle.proof_tree.specs.declared.line.Line.TheVariants.{Range}
use Rattle.proof_text.specs.declared.part_line.Kind.TheVariants.{Range as RangeKind}
use Rattle.proof_text.specs.declared.part_line.PartLine.TheVariants.{Letter}
use Rattle.proof_text.specs.PartLines.{ReadsPart}
use Rattle.proof_text.proofs.WholeLines.{range_reads}
use Rattle.proof_text.proofs.whole_line.range.Goals as goal

pub returns : goal.returns
returns c =
    let o = c.in-Ok.ensures.ok in
    let e : to_z w64 (of_z w64 c.in-Ok.hi) ≡ c.in-Ok.hi = grind (arith, to_z-of_z) in
    subst (λ (z : ℤ). ReadsPart (Letter RangeKind) c.args.text.now (Range z) c.in-Ok.rest.now) (sym e)
    (range_reads c.in-Ok.hi c.args.text.now c.in-Some.rest.now c.in-Ok.rest.now c.in-Some.ensures o.0 o.1)
