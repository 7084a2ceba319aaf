use Rattle.std.proofs.Common.{◌∙◌, sym, ap}
use Rattle.lemma_list.specs.Sums.{counts, terms_range}
use Rattle.lemma_reasons.proofs.Adding.{terms_all}
use Rattle.lemma_reasons.proofs.terms.terms_before.Goals as goal

pub returns-in-None : goal.returns-in-None
returns-in-None c =
    let g = c.args.problem.now in
    let box = c.args.store.now.box in
    let ns = c.args.factors.now in
    let xs = c.args.items.now in
    c.sum_extent.ensures.value ∙ (terms_all g box ns xs ∙ ap (λ t. terms_range (counts g t) ns xs box) (sym c.in-None.is))
