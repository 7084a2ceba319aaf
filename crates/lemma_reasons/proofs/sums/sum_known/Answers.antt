use Rattle.std.proofs.Common.{◌∙◌, sym, ap, Some, None}
use Rattle.qc_model.specs.Ranges.{Range, range_of}
use Rattle.lemma_list.specs.Sums.{Linear, terms_range}
use Rattle.lemma_reasons.specs.Steps.{is_counted}
use Rattle.lemma_reasons.specs.Terms.{with_all}
use Rattle.lemma_reasons.proofs.Adding.{none_own, all_known}
use Rattle.lemma_reasons.proofs.sums.sum_known.Goals as goal

pub returns-then-not-has_sum : goal.returns-then-not-has_sum
returns-then-not-has_sum c e b =
    let g = c.args.problem.now in
    let box = c.args.store.now.box in
    let sums = c.args.given.sums.now in
    let k = c.args.given.c.0 in
    let t = c.args.before in
    let l : Linear = record { is_equal = e; factors = c.args.factors.now; items = c.args.items.now; bound = b } in
    let rest = terms_range (is_counted g t (Some c.args.given.scope)) l.factors l.items box in
    let all = terms_range (is_counted g t None) l.factors l.items box in
    c.terms_before-known.ensures ∙ (sym (none_own sums k rest all (sym c.has_sum.ensures ∙ c.if-not-has_sum.true)) ∙ all_known g c.args.given.scope sums k t l box)

pub returns : goal.returns
returns c e b =
    let g = c.args.problem.now in
    let box = c.args.store.now.box in
    let sums = c.args.given.sums.now in
    let k = c.args.given.c.0 in
    let t = c.args.before in
    let l : Linear = record { is_equal = e; factors = c.args.factors.now; items = c.args.items.now; bound = b } in
    let rest = terms_range (is_counted g t (Some c.args.given.scope)) l.factors l.items box in
    let beyond = range_of c.terms-beyond.result.from c.terms-beyond.result.to in
    let known = range_of c.terms_before-known.result.from c.terms_before-known.result.to in
    c.with_sums.ensures
    ∙ (ap (λ (r : Range). with_all sums k r known) c.terms-beyond.ensures.value
    ∙ (ap (with_all sums k rest) c.terms_before-known.ensures ∙ all_known g c.args.given.scope sums k t l box))
