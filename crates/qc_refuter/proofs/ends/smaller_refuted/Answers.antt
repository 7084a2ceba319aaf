use Rattle.std.proofs.Common.{◌∙◌, ap, rules}
use Rattle.std.proofs.lemmas.Int.{to_z-of_z}
use mir.Val.{SFits}
use mir.Syntax.{w64}
use Rattle.qc_model.specs.Left.{left_at, range_at}
use Rattle.qc_model.specs.Ranges.{ranges_miss}
use Rattle.qc_refuter.specs.Met.{seen, lefts}
use Rattle.qc_refuter.proofs.ItemEnds.{smaller_ends}
use Rattle.qc_refuter.proofs.ends.smaller_refuted.Goals as goal

pub returns-clause-smaller : goal.returns-clause-smaller
returns-clause-smaller c =
    let args = lefts (seen c.args.view.now) c.args.args.now in
    let l_fits : SFits w64 c.least_at.result = search rules in
    let m_fits : SFits w64 c.least_at-2.result = search rules in
    let g_fits : SFits w64 c.greatest_at.result = search rules in
    let h_fits : SFits w64 c.greatest_at-2.result = search rules in
    let from_fits : SFits w64 c.min.result = search rules in
    let to_fits : SFits w64 c.min-2.result = search rules in
    let from = simp to_z-of_z at c.min.ensures.value in
    let to = simp to_z-of_z at c.min-2.ensures.value in
    let ends = smaller_ends (left_at args 0) (left_at args 1) c.min.result c.min-2.result c.least_at.result c.least_at-2.result c.greatest_at.result c.greatest_at-2.result from to c.least_at.ensures c.least_at-2.ensures c.greatest_at.ensures c.greatest_at-2.ensures in
    let misses = simp to_z-of_z at c.misses_at.ensures in
    misses ∙ ap (λ r. ranges_miss r (range_at args 2)) ends

pub returns-clause-both : goal.returns-clause-both
returns-clause-both c =
    let args = lefts (seen c.args.view.now) c.args.args.now in
    let l_fits : SFits w64 c.least_at.result = search rules in
    let m_fits : SFits w64 c.least_at-2.result = search rules in
    let g_fits : SFits w64 c.greatest_at.result = search rules in
    let h_fits : SFits w64 c.greatest_at-2.result = search rules in
    let from_fits : SFits w64 c.min.result = search rules in
    let to_fits : SFits w64 c.min-2.result = search rules in
    let from = simp to_z-of_z at c.min.ensures.value in
    let to = simp to_z-of_z at c.min-2.ensures.value in
    let ends = smaller_ends (left_at args 0) (left_at args 1) c.min.result c.min-2.result c.least_at.result c.least_at-2.result c.greatest_at.result c.greatest_at-2.result from to c.least_at.ensures c.least_at-2.ensures c.greatest_at.ensures c.greatest_at-2.ensures in
    let misses = simp to_z-of_z at c.misses_at.ensures in
    misses ∙ ap (λ r. ranges_miss r (range_at args 2)) ends
