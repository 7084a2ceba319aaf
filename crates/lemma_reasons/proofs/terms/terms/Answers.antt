use Rattle.std.proofs.Common.{◌<◌, ◌+◌, rules, arith, length, drop, get_or}
use Rattle.std.specs.Prelude.{pos, ◌+ℤ◌}
use Rattle.std.proofs.lemmas.Int.{to_z-of_z, fits_signed_from_abs}
use mir.Val.{SFits, to_z}
use mir.Syntax.{w64, w128}
use Rattle.qc_model.specs.declared.problem.Arg.TheVariants.{Var}
use Rattle.qc_refuter.proofs.Terms.{sum_more, sum_none, abs_sum, at_end}
use Rattle.lemma_list.specs.Sums.{terms_range}
use Rattle.lemma_reasons.specs.Steps.{is_counted}
use Rattle.lemma_reasons.proofs.Adding.{term_of, terms_step, terms_end}
use Rattle.lemma_reasons.proofs.terms.terms.Goals as goal

pub loop-k-preserved : goal.loop-k-preserved
loop-k-preserved c =
    let k = c.loop-k.k in
    let ns = c.args.factors.now in
    let items = c.args.items.now in
    let box = c.args.store.now.box in
    let p = is_counted c.args.problem.now c.args.which.before c.args.which.but in
    let few : k < 1000 = omega (arith, c.requires.terms.few, c.min-count.ensures) in
    let a_fits : SFits w128 c.term-one.result.from = search rules in
    let b_fits : SFits w128 c.term-one.result.to = search rules in
    let from = to_z w128 c.loop-k.from-bits in
    let to = to_z w128 c.loop-k.to-bits in
    let s = abs_sum from c.term-one.result.from in
    let t = abs_sum to c.term-one.result.to in
    let from_fits : SFits w128 (from +ℤ c.term-one.result.from) = fits_signed_from_abs w128 (from +ℤ c.term-one.result.from) (omega (arith, s, c.loop-k.invariant.small_from, c.term-one.ensures.small_from)) in
    let to_fits : SFits w128 (to +ℤ c.term-one.result.to) = fits_signed_from_abs w128 (to +ℤ c.term-one.result.to) (omega (arith, t, c.loop-k.invariant.small_to, c.term-one.ensures.small_to)) in
    let x = get_or items k (Var (record { 0 = 0 })) in
    let step = terms_step p box ns items k (Var (record { 0 = 0 })) (omega (arith, c.min-count.ensures)) (omega (arith, c.min-count.ensures)) in
    let n_fits : SFits w64 (get_or ns k (pos 0)) = search rules in
    let value = simp to_z-of_z at c.term-one.ensures.value in
    simp to_z-of_z
    (record {
      small_from = omega (arith, s, c.loop-k.invariant.small_from, c.term-one.ensures.small_from);
      small_to = omega (arith, t, c.loop-k.invariant.small_to, c.term-one.ensures.small_to);
      sum = sum_more from to c.term-one.result.from c.term-one.result.to (terms_range p (drop k ns) (drop k items) box) (terms_range p (drop (k + 1) ns) (drop (k + 1) items) box) (terms_range p ns items box) (term_of p box (get_or ns k (pos 0)) x) c.loop-k.invariant.sum step value;
    })

pub returns-clause-value : goal.returns-clause-value
returns-clause-value c =
    let k = c.loop-k.k in
    let ns = c.args.factors.now in
    let items = c.args.items.now in
    let box = c.args.store.now.box in
    let p = is_counted c.args.problem.now c.args.which.before c.args.which.but in
    let end = terms_end p box ns items k (at_end (length ns) (length items) k (omega (arith, c.min-count.ensures))) in
    sum_none (to_z w128 c.loop-k.from-bits) (to_z w128 c.loop-k.to-bits) (terms_range p (drop k ns) (drop k items) box) (terms_range p ns items box) c.loop-k.invariant.sum end
