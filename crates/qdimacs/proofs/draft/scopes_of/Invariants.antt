use Rattle.std.proofs.Common.{◌≡◌, ◌++◌, drop, map}
use Rattle.qdimacs.specs.Content.{scope_of}
use Rattle.qdimacs.specs.Refusals.{block_of}
use Rattle.qdimacs.proofs.draft.scopes_of.Given as goal

abbrev pub invariant-loop-block : goal.invariant-loop-block
invariant-loop-block l = l.scopes.items ++ map scope_of (map block_of (drop l.block-index l.blocks)) ≡ map scope_of (map block_of l.blocks)
