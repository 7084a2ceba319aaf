use Rattle.std.proofs.Common.{◌∙◌, ◌++◌, refl, ap, map, arith}
use Rattle.qdimacs.specs.Content.{order}
use Rattle.qdimacs.specs.Refusals.{block_of}
use Rattle.qdimacs.specs.declared.tree.NumberText.{NumberText}
use Rattle.qdimacs.proofs.Steps.{added, ended}
use Rattle.qdimacs.proofs.draft.order.Goals as goal

pub loop-block-preserved : goal.loop-block-preserved
loop-block-preserved c =
    let old = c.loop-block.order.items in
    let b = c.block-item.result in
    added (λ ss. order (map block_of ss)) (λ ss. order (map block_of ss)) c.args.blocks.now c.loop-block.block-index b
    (map (λ (n : NumberText). n.value) b.variables) old c.push_values.new.order.items _ (omega arith) c.block-item.is refl
    (c.in_ok-push_values.ensures ∙ ap (λ ns. old ++ map (λ (n : NumberText). n.value) ns) c.items.ensures)
    c.loop-block.invariant

pub returns : goal.returns
returns c =
    ended (λ ss. order (map block_of ss)) c.args.blocks.now c.loop-block.block-index c.loop-block.order.items _ refl
    (omega arith) c.loop-block.invariant
