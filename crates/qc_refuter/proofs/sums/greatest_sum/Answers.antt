use Rattle.std.proofs.Common.{◌≡◌, ◌<◌, rules, arith, length, map, drop, get_or, sym, ap, ◌∙◌}
use Rattle.std.proofs.Math.Nat.{le_refl}
use Rattle.std.specs.Prelude.{pos, ◌+ℤ◌}
use Rattle.std.proofs.lemmas.Int.{to_z-of_z, fits_signed_from_abs}
use Rattle.std.proofs.lemmas.List.{length-map}
use mir.Val.{SFits, to_z}
use mir.Syntax.{w64, w128}
use Rattle.qc_model.specs.declared.problem.Arg.TheVariants.{Var}
use Rattle.qc_model.specs.Domains.{Values}
use Rattle.qc_model.specs.Left.{span, sum_range}
use Rattle.qc_model.specs.Ranges.{Range, point, product}
use Rattle.qc_model.specs.Refuted.{left_to}
use Rattle.qc_refuter.specs.Met.{seen}
use Rattle.qc_refuter.proofs.Terms.{sum_end, greatest_more, end_none, item_left, abs_sum, at_end, open_at}
use Rattle.qc_refuter.proofs.SumPlaces.{within_first, within_second, number_at, zero_first, term_wide, more_wide}
use Rattle.qc_refuter.proofs.sums.greatest_sum.Goals as goal

pub loop-k-preserved : goal.loop-k-preserved
loop-k-preserved c =
    let k = c.loop-k.k in
    let ns = c.args.factors.now in
    let items = c.args.items.now in
    let box = seen c.args.view.now in
    let ds = map (left_to box) items in
    let few : k < 1000 = omega (arith, c.requires.few, c.min-count.ensures) in
    let term = c.greatest_term.result in
    let sum = to_z w128 c.loop-k.sum-bits in
    let fits : SFits w64 term = search rules in
    let wide : SFits w128 term = fits_signed_from_abs w128 term (omega (arith, c.greatest_term.ensures.small)) in
    let s = abs_sum sum term in
    let sum_fits : SFits w128 (sum +ℤ term) = fits_signed_from_abs w128 (sum +ℤ term) (omega (arith, s, c.loop-k.invariant.small, c.greatest_term.ensures.small)) in
    let as_many : length ds ≡ length items = length-map items (left_to box) in
    let item = item_left box items k (Var (record { 0 = 0 })) (omega (arith, c.min-count.ensures)) in
    let n_fits : SFits w64 (get_or ns k (pos 0)) = search rules in
    let one = simp to_z-of_z at c.greatest_term.ensures.value in
    let value = one ∙ sym (ap (λ (d : Values). (product (point (get_or ns k (pos 0))) (span d)).to) item) in
    simp to_z-of_z
    (record {
      small = omega (arith, s, c.loop-k.invariant.small, c.greatest_term.ensures.small);
      sum = greatest_more ns ds k sum term (sum_range ns ds).to (omega (arith, c.min-count.ensures)) (omega (arith, c.min-count.ensures, as_many)) value c.loop-k.invariant.sum;
    })

pub returns : goal.returns
returns c =
    let k = c.loop-k.k in
    let ns = c.args.factors.now in
    let items = c.args.items.now in
    let box = seen c.args.view.now in
    let ds = map (left_to box) items in
    let as_many : length ds ≡ length items = length-map items (left_to box) in
    let end = sum_end ns ds k (at_end (length ns) (length ds) k (omega (arith, c.min-count.ensures, as_many))) in
    end_none (to_z w128 c.loop-k.sum-bits) (sum_range (drop k ns) (drop k ds)).to (sum_range ns ds).to c.loop-k.invariant.sum (ap (λ (r : Range). r.to) end)

pub greatest_term-requires-clause-factor : goal.greatest_term-requires-clause-factor
greatest_term-requires-clause-factor c =
    let n_fits : SFits w64 (get_or c.args.factors.now c.loop-k.k (pos 0)) = search rules in
    simp to_z-of_z (number_at c.args.factors.now c.loop-k.k (pos 0) (within_first _ _ _ _ c.min-count.ensures c.loop-k-test.true) c.requires.factors)

pub greatest_term-requires-clause-open : goal.greatest_term-requires-clause-open
greatest_term-requires-clause-open c = open_at (seen c.args.view.now) c.args.items.now c.loop-k.k (Var (record { 0 = 0 })) (within_second _ _ _ _ c.min-count.ensures c.loop-k-test.true) c.requires.items

pub loop-k-init : goal.loop-k-init
loop-k-init c = record { small = le_refl 0; sum = zero_first _ }

pub overflow_cast-sum : goal.overflow_cast-sum
overflow_cast-sum c =
    let fits : SFits w64 c.greatest_term.result = record { sfits = c.greatest_term.type_inv } in
    simp to_z-of_z (term_wide c.greatest_term.result c.greatest_term.ensures.small)

pub overflow_add-sum : goal.overflow_add-sum
overflow_add-sum c =
    let fits : SFits w64 c.greatest_term.result = record { sfits = c.greatest_term.type_inv } in
    let wide : SFits w128 c.greatest_term.result = term_wide c.greatest_term.result c.greatest_term.ensures.small in
    simp to_z-of_z (more_wide (to_z w128 c.loop-k.sum-bits) c.greatest_term.result _ _ _ c.loop-k.k c.min-count.ensures c.loop-k-test.true c.requires.few c.loop-k.invariant.small c.greatest_term.ensures.small)
