use Rattle.std.proofs.Common.{◌∙◌, sym, subst, rules, ℤ}
use Rattle.std.specs.Prelude.{◌≤ℤ◌}
use Rattle.std.proofs.lemmas.Int.{to_z-of_z}
use mir.Val.{SFits}
use mir.Syntax.{w64, w128}
use Rattle.qc_model.specs.Domains.{least_value}
use Rattle.qc_model.specs.Refuted.{left_to}
use Rattle.qc_refuter.specs.Met.{seen}
use Rattle.qc_refuter.proofs.Results.{ends_ordered, ends_small}
use Rattle.qc_refuter.proofs.spans.span_left.Goals as goal

pub span_of-requires-clause-ordered : goal.span_of-requires-clause-ordered
span_of-requires-clause-ordered c =
    let d = left_to (seen c.args.view.now) c.args.arg in
    let l_fits : SFits w64 c.least.result = search rules in
    let h_fits : SFits w64 c.greatest.result = search rules in
    let l_wide : SFits w128 c.least.result = search rules in
    let h_wide : SFits w128 c.greatest.result = search rules in
    let below : least_value d ≤ℤ c.greatest.result = let P : ℤ → Type 0 = λ z. least_value d ≤ℤ z in subst P (sym c.greatest.ensures) (ends_ordered d c.requires) in
    let ordered : c.least.result ≤ℤ c.greatest.result = let P : ℤ → Type 0 = λ z. z ≤ℤ c.greatest.result in subst P (sym c.least.ensures) below in
    simp to_z-of_z ordered

pub returns-clause-small : goal.returns-clause-small
returns-clause-small c =
    let d = left_to (seen c.args.view.now) c.args.arg in
    let l_fits : SFits w64 c.least.result = search rules in
    let h_fits : SFits w64 c.greatest.result = search rules in
    let l_wide : SFits w128 c.least.result = search rules in
    let h_wide : SFits w128 c.greatest.result = search rules in
    let lo = simp to_z-of_z at c.span_of.ensures.lo in
    let hi = simp to_z-of_z at c.span_of.ensures.hi in
    ends_small c.span_of.result d c.requires (lo ∙ c.least.ensures) (hi ∙ c.greatest.ensures)
