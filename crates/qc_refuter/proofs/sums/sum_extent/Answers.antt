use Rattle.std.proofs.Common.{◌≡◌, ◌<◌, ◌+◌, rules, arith, length, map, drop, get_or, [], sym, ap, ◌∙◌}
use Rattle.std.specs.Prelude.{pos, ◌+ℤ◌}
use Rattle.std.proofs.lemmas.Int.{to_z-of_z, fits_signed_from_abs}
use Rattle.std.proofs.lemmas.List.{length-map}
use mir.Val.{SFits, to_z}
use mir.Syntax.{w64, w128}
use Rattle.qc_model.specs.declared.problem.Arg.TheVariants.{Var}
use Rattle.qc_model.specs.Left.{span, sum_range}
use Rattle.qc_model.specs.Ranges.{point, product}
use Rattle.qc_model.specs.Refuted.{left_to}
use Rattle.qc_refuter.proofs.Terms.{sum_step, sum_end, sum_more, sum_none, item_left, abs_sum, at_end, open_at}
use Rattle.qc_refuter.proofs.SumPlaces.{within_first, within_second, number_at, term_wide, more_wide}
use Rattle.qc_refuter.proofs.sums.sum_extent.Goals as goal

pub loop-k-preserved : goal.loop-k-preserved
loop-k-preserved c =
    let k = c.loop-k.k in
    let ns = c.args.factors.now in
    let items = c.args.items.now in
    let box = c.args.store.now.box in
    let ds = map (left_to box) items in
    let few : k < 1000 = omega (arith, c.requires.few, c.min-count.ensures) in
    let a_fits : SFits w64 c.term_left-one.result.from = search rules in
    let a_wide : SFits w128 c.term_left-one.result.from = fits_signed_from_abs w128 c.term_left-one.result.from (omega (arith, c.term_left-one.ensures.small_from)) in
    let b_fits : SFits w64 c.term_left-one.result.to = search rules in
    let b_wide : SFits w128 c.term_left-one.result.to = fits_signed_from_abs w128 c.term_left-one.result.to (omega (arith, c.term_left-one.ensures.small_to)) in
    let from = to_z w128 c.loop-k.from-bits in
    let to = to_z w128 c.loop-k.to-bits in
    let s = abs_sum from c.term_left-one.result.from in
    let t = abs_sum to c.term_left-one.result.to in
    let from_fits : SFits w128 (from +ℤ c.term_left-one.result.from) = fits_signed_from_abs w128 (from +ℤ c.term_left-one.result.from) (omega (arith, s, c.loop-k.invariant.small_from, c.term_left-one.ensures.small_from)) in
    let to_fits : SFits w128 (to +ℤ c.term_left-one.result.to) = fits_signed_from_abs w128 (to +ℤ c.term_left-one.result.to) (omega (arith, t, c.loop-k.invariant.small_to, c.term_left-one.ensures.small_to)) in
    let as_many : length ds ≡ length items = length-map items (left_to box) in
    let step = sum_step ns ds k (omega (arith, c.min-count.ensures)) (omega (arith, c.min-count.ensures, as_many)) in
    let item = item_left box items k (Var (record { 0 = 0 })) (omega (arith, c.min-count.ensures)) in
    let n_fits : SFits w64 (get_or ns k (pos 0)) = search rules in
    let one = simp to_z-of_z at c.term_left-one.ensures.value in
    let value = one ∙ sym (ap (λ d. product (point (get_or ns k (pos 0))) (span d)) item) in
    simp to_z-of_z
    (record {
      small_from = omega (arith, s, c.loop-k.invariant.small_from, c.term_left-one.ensures.small_from);
      small_to = omega (arith, t, c.loop-k.invariant.small_to, c.term_left-one.ensures.small_to);
      sum = sum_more from to c.term_left-one.result.from c.term_left-one.result.to (sum_range (drop k ns) (drop k ds)) (sum_range (drop (k + 1) ns) (drop (k + 1) ds)) (sum_range ns ds) (product (point (get_or ns k (pos 0))) (span (get_or ds k []))) c.loop-k.invariant.sum step value;
    })

pub returns-clause-value : goal.returns-clause-value
returns-clause-value c =
    let k = c.loop-k.k in
    let ns = c.args.factors.now in
    let items = c.args.items.now in
    let box = c.args.store.now.box in
    let ds = map (left_to box) items in
    let as_many : length ds ≡ length items = length-map items (left_to box) in
    let end = sum_end ns ds k (at_end (length ns) (length ds) k (omega (arith, c.min-count.ensures, as_many))) in
    sum_none (to_z w128 c.loop-k.from-bits) (to_z w128 c.loop-k.to-bits) (sum_range (drop k ns) (drop k ds)) (sum_range ns ds) c.loop-k.invariant.sum end

pub term_left-one-requires-clause-factor : goal.term_left-one-requires-clause-factor
term_left-one-requires-clause-factor c =
    let n_fits : SFits w64 (get_or c.args.factors.now c.loop-k.k (pos 0)) = search rules in
    simp to_z-of_z (number_at c.args.factors.now c.loop-k.k (pos 0) (within_first _ _ _ _ c.min-count.ensures c.loop-k-test.true) c.requires.factors)

pub term_left-one-requires-clause-open : goal.term_left-one-requires-clause-open
term_left-one-requires-clause-open c = open_at c.args.store.now.box c.args.items.now c.loop-k.k (Var (record { 0 = 0 })) (within_second _ _ _ _ c.min-count.ensures c.loop-k-test.true) c.requires.items

pub overflow_cast-from : goal.overflow_cast-from
overflow_cast-from c =
    let fits : SFits w64 c.term_left-one.result.from = search rules in
    simp to_z-of_z (term_wide c.term_left-one.result.from c.term_left-one.ensures.small_from)

pub overflow_add-from : goal.overflow_add-from
overflow_add-from c =
    let fits : SFits w64 c.term_left-one.result.from = search rules in
    let wide : SFits w128 c.term_left-one.result.from = term_wide c.term_left-one.result.from c.term_left-one.ensures.small_from in
    simp to_z-of_z (more_wide (to_z w128 c.loop-k.from-bits) c.term_left-one.result.from _ _ _ c.loop-k.k c.min-count.ensures c.loop-k-test.true c.requires.few c.loop-k.invariant.small_from c.term_left-one.ensures.small_from)

pub overflow_cast-to : goal.overflow_cast-to
overflow_cast-to c =
    let fits : SFits w64 c.term_left-one.result.to = search rules in
    simp to_z-of_z (term_wide c.term_left-one.result.to c.term_left-one.ensures.small_to)

pub overflow_add-to : goal.overflow_add-to
overflow_add-to c =
    let fits : SFits w64 c.term_left-one.result.to = search rules in
    let wide : SFits w128 c.term_left-one.result.to = term_wide c.term_left-one.result.to c.term_left-one.ensures.small_to in
    simp to_z-of_z (more_wide (to_z w128 c.loop-k.to-bits) c.term_left-one.result.to _ _ _ c.loop-k.k c.min-count.ensures c.loop-k-test.true c.requires.few c.loop-k.invariant.small_to c.term_left-one.ensures.small_to)
