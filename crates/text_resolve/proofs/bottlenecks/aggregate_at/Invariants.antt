use Rattle.std.proofs.Common.{◌≡◌, drop}
use Rattle.text_resolve.specs.Bottlenecks.{aggregate_at}
use Rattle.text_resolve.proofs.bottlenecks.aggregate_at.Given as goal

abbrev pub invariant-loop-item : goal.invariant-loop-item
invariant-loop-item l = aggregate_at (drop l.item-index l.items) l.left ≡ aggregate_at l.items l.number
