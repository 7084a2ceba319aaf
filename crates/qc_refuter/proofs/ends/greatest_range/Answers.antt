use Rattle.std.proofs.Common.{◌+◌, map, drop, ap, ◌∙◌, arith}
use Rattle.qc_model.specs.declared.problem.Arg.TheVariants.{Var}
use Rattle.qc_model.specs.Left.{greatest_range}
use Rattle.qc_model.specs.Ranges.{range_of}
use Rattle.qc_model.specs.Refuted.{left_to}
use Rattle.qc_refuter.specs.Met.{seen}
use Rattle.qc_refuter.proofs.ItemEnds.{greatest_step}
use Rattle.qc_refuter.proofs.ends.greatest_range.Goals as goal

pub loop-item-preserved : goal.loop-item-preserved
loop-item-preserved c =
    let box = seen c.args.view.now in
    let items = c.args.items.now in
    let k = c.loop-item.item-index in
    ap (λ r. greatest_range r (map (left_to box) (drop (k + 1) items))) c.greater-reach.ensures
    ∙ greatest_step box items k (Var (record { 0 = 0 })) c.loop-item.reach.from c.loop-item.reach.to (range_of c.reach_of.result.from c.reach_of.result.to) (greatest_range (range_of c.args.first.from c.args.first.to) (map (left_to box) items)) (omega arith) c.loop-item.invariant c.reach_of.ensures
