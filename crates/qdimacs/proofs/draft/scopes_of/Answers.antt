use Rattle.std.proofs.Common.{refl, map, arith}
use Rattle.qdimacs.specs.Content.{scope_of}
use Rattle.qdimacs.specs.Refusals.{block_of}
use Rattle.qdimacs.proofs.Steps.{ended}
use Rattle.qdimacs.proofs.draft.scopes_of.Goals as goal

pub returns : goal.returns
returns c =
    ended (λ ss. map scope_of (map block_of ss)) c.args.blocks.now c.loop-block.block-index
    c.loop-block.scopes.items _ refl (omega arith) c.loop-block.invariant
