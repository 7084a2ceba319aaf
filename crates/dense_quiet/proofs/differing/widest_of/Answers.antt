use Rattle.std.proofs.Common.{◌≡◌, ◌+◌, get_or, refl, sym, subst, ◌∙◌}
use Rattle.std.proofs.Math.Nat.{le_refl}
use Rattle.qc_refuter.specs.Full.{first_sum, IsWidest}
use Rattle.qc_refuter.proofs.Fill.{widest_none, widest_here}
use Rattle.qc_refuter.proofs.WidestRanges.{sum_more, same_more, each_more, later_more, all_widest, too_many, none_widest}
use Rattle.dense_quiet.proofs.differing.widest_of.Goals as goal
use Rattle.dense_quiet.proofs.differing.widest_of.Goals.{then-sum-k-2, else-sum-k-2}

pub loop-k-init : goal.loop-k-init
loop-k-init c =
    let f = first_sum c.args.counts.now in
    record { sum = refl; widest = widest_none f refl; each = none_widest f c.args.counts.now; later = λ j h. refl }

pub loop-k-preserved : goal.loop-k-preserved
loop-k-preserved c =
    let i = c.loop-k.invariant in
    let f = first_sum c.args.counts.now in
    let k = c.loop-k.k in
    let sum : c.loop-k.sum + get_or c.loop-k.counts k 0 ≡ f (k + 1) = sum_more c.args.counts.now c.loop-k.counts k c.loop-k.sum c.loop-k-test.true i.sum (i.later k (le_refl k)) in
    let widest : IsWidest f (k + 1) c.if-sum-k-2.widest =
    elim c.if-sum-k-2.branch [
      | then-sum-k-2 w ↦ subst (IsWidest f (k + 1)) (sym w.widest-is) (widest_here f k (sym sum ∙ w.if-sum-k-2.true))
      | else-sum-k-2 w ↦ subst (IsWidest f (k + 1)) (sym w.widest-is) (same_more f k c.loop-k.widest _ i.widest sum c.if-sum-k.false w.if-sum-k-2.false)
    ] in
    record {
      sum = sum;
      widest = widest;
      each = each_more f c.loop-k.counts k c.loop-k.widest _ c.loop-k.auto.counts c.loop-k-test.true i.widest i.each;
      later = later_more c.args.counts.now c.loop-k.counts k c.loop-k.widest i.later;
    }

pub returns-then-sum-k-clause-none : goal.returns-then-sum-k-clause-none
returns-then-sum-k-clause-none c =
    let i = c.loop-k.invariant in
    let k = c.loop-k.k in
    too_many (first_sum c.args.counts.now) k _ _ c.loop-k-test.true (sum_more c.args.counts.now c.loop-k.counts k c.loop-k.sum c.loop-k-test.true i.sum (i.later k (le_refl k))) c.if-sum-k.true

pub returns-clause-some : goal.returns-clause-some
returns-clause-some c =
    let i = c.loop-k.invariant in
    all_widest (first_sum c.args.counts.now) c.loop-k.counts c.loop-k.k c.loop-k.widest _ c.loop-k.auto.counts c.loop-k.auto.k-end c.loop-k-test.false i.widest i.each
