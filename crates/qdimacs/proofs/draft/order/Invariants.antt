use Rattle.std.proofs.Common.{◌≡◌, ◌++◌, drop, map}
use Rattle.qdimacs.specs.Content.{order}
use Rattle.qdimacs.specs.Refusals.{block_of}
use Rattle.qdimacs.proofs.draft.order.Given as goal

abbrev pub invariant-loop-block : goal.invariant-loop-block
invariant-loop-block l = l.order.items ++ order (map block_of (drop l.block-index l.blocks)) ≡ order (map block_of l.blocks)
