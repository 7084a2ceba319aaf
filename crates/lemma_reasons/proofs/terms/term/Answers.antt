use Rattle.std.proofs.Common.{◌∙◌, sym, ap, rules, cond}
use Rattle.std.specs.Prelude.{pos}
use Rattle.std.proofs.lemmas.Int.{to_z-of_z}
use mir.Val.{SFits}
use mir.Syntax.{w64}
use Rattle.qc_model.specs.Left.{span}
use Rattle.qc_model.specs.Ranges.{range_of, point, product}
use Rattle.qc_model.specs.Refuted.{left_to}
use Rattle.lemma_reasons.specs.Steps.{is_counted}
use Rattle.lemma_reasons.proofs.Adding.{counted}
use Rattle.lemma_reasons.proofs.terms.term.Goals as goal

pub returns-then-is_counted-clause-value : goal.returns-then-is_counted-clause-value
returns-then-is_counted-clause-value c =
    let n_fits : SFits w64 c.args.factor = search rules in
    let r = product (point c.args.factor) (span (left_to c.args.store.now.box c.args.item)) in
    let e = simp to_z-of_z at c.sum_extent.ensures.value in
    counted (range_of c.sum_extent.result.from c.sum_extent.result.to) r (is_counted c.args.problem.now c.args.which.before c.args.which.but c.args.item) e (sym c.if-is_counted.true ∙ c.is_counted.ensures)

pub returns-else-is_counted-clause-value : goal.returns-else-is_counted-clause-value
returns-else-is_counted-clause-value c =
    let r = product (point c.args.factor) (span (left_to c.args.store.now.box c.args.item)) in
    ap (λ b. cond b r (point (pos 0))) (sym c.if-is_counted.false ∙ c.is_counted.ensures)
