use Rattle.std.proofs.Common.{◌≡◌, ◌∙◌, arith, w64, to_z, of_z, refl}
use Rattle.std.proofs.lemmas.Bool.{and_from}
use Rattle.std.proofs.lemmas.Int.{to_z-of_z}
use Rattle.proof_text.proofs.StepLines.{prune_told}
use Rattle.proof_text.proofs.lines.prune.Goals as goal

pub returns-clause-ok : goal.returns-clause-ok
returns-clause-ok c =
    let i = c.in_ok-x in
    let o = i.ensures.ok in
    let d = c.in_ok-c.ensures.ok in
    let e : to_z w64 (of_z w64 i.lo) ≡ i.lo = grind (arith, to_z-of_z) in
    let f : to_z w64 (of_z w64 i.hi) ≡ i.hi = grind (arith, to_z-of_z) in
    rw (e, f) (
      prune_told i.x i.lo i.hi (record { 0 = c.in_ok-c.c }) c.args.text.now i.rest.now c.in_ok-c.rest.now o.0 d.0,
      and_from _ _ (and_from _ _ (and_from _ _ o.1 o.2) o.3) d.1,
      refl,
      λ k. o.4 _ ∙ d.2 k,
    )
