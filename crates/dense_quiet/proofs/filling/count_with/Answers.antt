use Rattle.std.proofs.Common.{◌∙◌, sym}
use Rattle.qc_model.specs.declared.problem.Arg.TheVariants.{Var}
use Rattle.qc_refuter.specs.Met.{is_open}
use Rattle.dense_quiet.specs.Filling.{is_counted}
use Rattle.dense_quiet.proofs.Counted.{counted_few, counted_fits, count_yes, count_no}
use Rattle.dense_quiet.proofs.Spread.{passes_at}
use Rattle.dense_quiet.proofs.filling.count_with.Goals as goal
use Rattle.dense_quiet.proofs.filling.count_with.Goals.{then-counts, else-counts}

pub counts-requires : goal.counts-requires
counts-requires c = passes_at (is_open c.args.store.now.box) c.args.items.now c.loop-item.item-index (Var (record { 0 = 0 })) c.loop-item-test.true c.requires.items

pub overflow_add-count : goal.overflow_add-count
overflow_add-count c = counted_fits (is_counted c.args.s.low c.args.s.high c.args.x.0 c.args.store.now.box) c.args.items.now c.loop-item.item-index c.loop-item.count c.loop-item.invariant c.loop-item-test.true c.requires.few

pub loop-item-preserved : goal.loop-item-preserved
loop-item-preserved c =
    let p = is_counted c.args.s.low c.args.s.high c.args.x.0 c.args.store.now.box in
    let xs = c.args.items.now in
    let i = c.loop-item.item-index in
    elim c.if-counts.branch [
      | then-counts w ↦ w.count-is ∙ count_yes p xs i (Var (record { 0 = 0 })) c.loop-item.count c.loop-item.invariant c.loop-item-test.true (sym c.counts.ensures ∙ w.if-counts.true)
      | else-counts w ↦ w.count-is ∙ count_no p xs i (Var (record { 0 = 0 })) c.loop-item.count c.loop-item.invariant c.loop-item-test.true (sym c.counts.ensures ∙ w.if-counts.false)
    ]

pub returns-clause-few : goal.returns-clause-few
returns-clause-few c = counted_few (is_counted c.args.s.low c.args.s.high c.args.x.0 c.args.store.now.box) c.args.items.now c.loop-item.item-index c.loop-item.count c.loop-item.invariant c.requires.few
