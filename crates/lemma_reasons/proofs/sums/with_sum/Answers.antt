use Rattle.std.proofs.Common.{◌≡◌, ◌∙◌, ap, rules}
use Rattle.std.specs.Prelude.{◌+ℤ◌}
use Rattle.std.specs.Int.{int_min, int_max}
use Rattle.std.proofs.lemmas.Int.{to_z-of_z}
use mir.Val.{SFits}
use mir.Syntax.{w64, w128}
use Rattle.qc_model.specs.Ranges.{range_of}
use Rattle.lemma_reasons.proofs.Adding.{wide, end_fits}
use Rattle.lemma_reasons.proofs.sums.with_sum.Goals as goal

pub returns : goal.returns
returns c =
    let lo = c.args.sum.lo in
    let hi = c.args.sum.hi in
    let from = c.args.beyond.from in
    let to = c.args.beyond.to in
    let lo_fits : SFits w64 c.args.sum.lo = search rules in
    let hi_fits : SFits w64 c.args.sum.hi = search rules in
    let lo_wide : SFits w128 c.args.sum.lo = wide lo lo_fits in
    let hi_wide : SFits w128 c.args.sum.hi = wide hi hi_fits in
    let from_wide : SFits w128 c.args.beyond.from = search rules in
    let to_wide : SFits w128 c.args.beyond.to = search rules in
    let sum_from : SFits w128 (c.args.sum.lo +ℤ c.args.beyond.from) = end_fits lo from lo_fits c.requires.beyond_from in
    let sum_to : SFits w128 (c.args.sum.hi +ℤ c.args.beyond.to) = end_fits hi to hi_fits c.requires.beyond_to in
    let known_from : SFits w128 c.args.known.from = search rules in
    let known_to : SFits w128 c.args.known.to = search rules in
    let max_fits : SFits w128 c.max.result = search rules in
    let min_fits : SFits w128 c.min.result = search rules in
    let m : c.max.result ≡ int_max (lo +ℤ from) c.args.known.from = simp to_z-of_z at c.max.ensures.value in
    let n : c.min.result ≡ int_min (hi +ℤ to) c.args.known.to = simp to_z-of_z at c.min.ensures.value in
    record { value = simp to_z-of_z (ap (λ z. range_of z c.min.result) m ∙ ap (range_of (int_max (lo +ℤ from) c.args.known.from)) n) }
