use Rattle.std.proofs.Common.{refl, map, arith}
use Rattle.qdimacs.specs.declared.tree.NumberText.{NumberText}
use Rattle.qdimacs.proofs.Steps.{ended}
use Rattle.qdimacs.proofs.draft.push_values.Goals as goal

pub returns : goal.returns
returns c =
    ended (λ ns. map (λ (n : NumberText). n.value) ns) c.args.numbers.now c.loop-number.number-index
    c.loop-number.order.items _ refl (omega arith) c.loop-number.invariant
