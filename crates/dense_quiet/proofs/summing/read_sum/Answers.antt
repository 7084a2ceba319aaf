use Rattle.std.proofs.Common.{◌≡◌, ◌<◌, ◌+◌, rules, length, map, drop, get_or, [], sym, ap, subst, ◌∙◌, ℕ, ℤ, true}
use Rattle.std.proofs.Math.Nat.{le_refl}
use Rattle.std.specs.Prelude.{pos, ◌+ℤ◌, ◌-ℤ◌, ◌≤ℤ◌, slice_get, Some}
use Rattle.std.proofs.lemmas.Int.{to_z-of_z}
use Rattle.std.proofs.lemmas.List.{length-map}
use mir.Val.{SFits, to_z}
use mir.Syntax.{w64, w128}
use Rattle.qc_model.specs.declared.problem.Arg.{Arg}
use Rattle.qc_model.specs.declared.problem.Arg.TheVariants.{Var}
use Rattle.qc_model.specs.Left.{span, sum_range}
use Rattle.qc_model.specs.Ranges.{point, product}
use Rattle.qc_model.specs.Refuted.{left_to}
use Rattle.qc_refuter.proofs.Terms.{sum_step, sum_end, sum_more, sum_none, item_left, at_end, open_at}
use Rattle.dense_quiet.specs.Slack.{IsNear, is_taken}
use Rattle.dense_quiet.proofs.Sums.{below, near_more, near_wider, near_width}
use Rattle.dense_quiet.proofs.SumWalk.{within_first, within_second, past_both, before_end, number_read, term_wide, more_wide, more_small, all_small, none_first, none_before}
use Rattle.dense_quiet.proofs.summing.read_sum.Goals as goal

pub loop-k-preserved : goal.loop-k-preserved
loop-k-preserved c =
    let k = c.loop-k.k in
    let ns = c.args.factors.now in
    let items = c.args.items.now in
    let box = c.args.store.now.box in
    let ds = map (left_to box) items in
    let a_fits : SFits w64 c.term_left-one.result.from = search rules in
    let a_wide : SFits w128 c.term_left-one.result.from = term_wide c.term_left-one.result.from c.term_left-one.ensures.small_from in
    let b_fits : SFits w64 c.term_left-one.result.to = search rules in
    let b_wide : SFits w128 c.term_left-one.result.to = term_wide c.term_left-one.result.to c.term_left-one.ensures.small_to in
    let from = to_z w128 c.loop-k.from-bits in
    let to = to_z w128 c.loop-k.to-bits in
    let from_fits : SFits w128 (from +ℤ c.term_left-one.result.from) = more_wide from c.term_left-one.result.from _ _ _ k c.min-count.ensures c.loop-k-test.true c.requires.few c.loop-k.invariant.small_from c.term_left-one.ensures.small_from in
    let to_fits : SFits w128 (to +ℤ c.term_left-one.result.to) = more_wide to c.term_left-one.result.to _ _ _ k c.min-count.ensures c.loop-k-test.true c.requires.few c.loop-k.invariant.small_to c.term_left-one.ensures.small_to in
    let first : k < length ns = within_first _ _ _ k c.min-count.ensures c.loop-k-test.true in
    let second : k < length items = within_second _ _ _ k c.min-count.ensures c.loop-k-test.true in
    let as_many : length ds ≡ length items = length-map items (left_to box) in
    let step = sum_step ns ds k first (subst (λ n. k < n) (sym as_many) second) in
    let item = item_left box items k (Var (record { 0 = 0 })) second in
    let n_fits : SFits w64 (get_or ns k (pos 0)) = search rules in
    let one = simp to_z-of_z at c.term_left-one.ensures.value in
    let value = one ∙ sym (ap (λ d. product (point (get_or ns k (pos 0))) (span d)) item) in
    let w = to_z w64 c.loop-k.widest-bits in
    let v = c.wider-widest.result in
    let v_fits : SFits w64 v = search rules in
    let wide : (c.term_left-one.result.to -ℤ c.term_left-one.result.from) ≤ℤ v = c.wider-widest.ensures.one in
    let more : w ≤ℤ v = c.wider-widest.ensures.more in
    let near : (i : ℕ) (n : ℤ) (a : Arg) → i < k + 1 → slice_get ns i ≡ Some n → slice_get items i ≡ Some a → is_taken (λ x. true) a ≡ true → IsNear v n (left_to box a) =
    near_more (λ x. true) v k ns items box (pos 0) (Var (record { 0 = 0 })) (λ i n a l p q t. near_wider w v n (left_to box a) more (c.loop-k.invariant.near i n a l p q t))
    (λ t. near_width v (get_or ns k (pos 0)) (left_to box (get_or items k (Var (record { 0 = 0 })))) c.term_left-one.result.from c.term_left-one.result.to one wide) in
    simp to_z-of_z
    (record {
      small_from = more_small from c.term_left-one.result.from k c.loop-k.invariant.small_from c.term_left-one.ensures.small_from;
      small_to = more_small to c.term_left-one.result.to k c.loop-k.invariant.small_to c.term_left-one.ensures.small_to;
      sum = sum_more from to c.term_left-one.result.from c.term_left-one.result.to (sum_range (drop k ns) (drop k ds)) (sum_range (drop (k + 1) ns) (drop (k + 1) ds)) (sum_range ns ds) (product (point (get_or ns k (pos 0))) (span (get_or ds k []))) c.loop-k.invariant.sum step value;
      near = near;
    })

pub returns-clause-value : goal.returns-clause-value
returns-clause-value c =
    let k = c.loop-k.k in
    let ns = c.args.factors.now in
    let items = c.args.items.now in
    let box = c.args.store.now.box in
    let ds = map (left_to box) items in
    let as_many : length ds ≡ length items = length-map items (left_to box) in
    let end = sum_end ns ds k (at_end (length ns) (length ds) k (past_both _ _ _ _ _ c.min-count.ensures as_many c.loop-k-test.false)) in
    sum_none (to_z w128 c.loop-k.from-bits) (to_z w128 c.loop-k.to-bits) (sum_range (drop k ns) (drop k ds)) (sum_range ns ds) c.loop-k.invariant.sum end

pub returns-clause-near : goal.returns-clause-near
returns-clause-near c = λ i n a p q t.
    let ns = c.args.factors.now in
    let xs = c.args.items.now in
    let l : i < c.loop-k.k = before_end _ _ _ _ i c.min-count.ensures c.loop-k-test.false (below ns i n p) (below xs i a q) in
    c.loop-k.invariant.near i n a l p q t

pub loop-k-init : goal.loop-k-init
loop-k-init c = record { small_from = le_refl 0; small_to = le_refl 0; sum = none_first _; near = λ i n a l p q t. none_before i _ l }

pub term_left-one-requires-clause-factor : goal.term_left-one-requires-clause-factor
term_left-one-requires-clause-factor c =
    let n_fits : SFits w64 (get_or c.args.factors.now c.loop-k.k (pos 0)) = search rules in
    simp to_z-of_z (number_read c.args.factors.now c.loop-k.k (pos 0) (within_first _ _ _ _ c.min-count.ensures c.loop-k-test.true) c.requires.factors)

pub term_left-one-requires-clause-open : goal.term_left-one-requires-clause-open
term_left-one-requires-clause-open c = open_at c.args.store.now.box c.args.items.now c.loop-k.k (Var (record { 0 = 0 })) (within_second _ _ _ _ c.min-count.ensures c.loop-k-test.true) c.requires.items

pub overflow_cast-from : goal.overflow_cast-from
overflow_cast-from c =
    let fits : SFits w64 c.term_left-one.result.from = search rules in
    simp to_z-of_z (term_wide c.term_left-one.result.from c.term_left-one.ensures.small_from)

pub overflow_add-from : goal.overflow_add-from
overflow_add-from c =
    let fits : SFits w64 c.term_left-one.result.from = search rules in
    let wide : SFits w128 c.term_left-one.result.from = term_wide c.term_left-one.result.from c.term_left-one.ensures.small_from in
    simp to_z-of_z (more_wide (to_z w128 c.loop-k.from-bits) c.term_left-one.result.from _ _ _ c.loop-k.k c.min-count.ensures c.loop-k-test.true c.requires.few c.loop-k.invariant.small_from c.term_left-one.ensures.small_from)

pub overflow_cast-to : goal.overflow_cast-to
overflow_cast-to c =
    let fits : SFits w64 c.term_left-one.result.to = search rules in
    simp to_z-of_z (term_wide c.term_left-one.result.to c.term_left-one.ensures.small_to)

pub overflow_add-to : goal.overflow_add-to
overflow_add-to c =
    let fits : SFits w64 c.term_left-one.result.to = search rules in
    let wide : SFits w128 c.term_left-one.result.to = term_wide c.term_left-one.result.to c.term_left-one.ensures.small_to in
    simp to_z-of_z (more_wide (to_z w128 c.loop-k.to-bits) c.term_left-one.result.to _ _ _ c.loop-k.k c.min-count.ensures c.loop-k-test.true c.requires.few c.loop-k.invariant.small_to c.term_left-one.ensures.small_to)

pub returns-clause-small_from : goal.returns-clause-small_from
returns-clause-small_from c = all_small (to_z w128 c.loop-k.from-bits) _ _ _ c.loop-k.k c.min-count.ensures c.loop-k.auto.k-end c.requires.few c.loop-k.invariant.small_from

pub returns-clause-small_to : goal.returns-clause-small_to
returns-clause-small_to c = all_small (to_z w128 c.loop-k.to-bits) _ _ _ c.loop-k.k c.min-count.ensures c.loop-k.auto.k-end c.requires.few c.loop-k.invariant.small_to
