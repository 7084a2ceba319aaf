use Rattle.std.proofs.Common.{◌≡◌, ◌++◌, drop, map}
use Rattle.qdimacs.specs.declared.tree.NumberText.{NumberText}
use Rattle.qdimacs.proofs.draft.push_values.Given as goal

abbrev pub invariant-loop-number : goal.invariant-loop-number
invariant-loop-number l = l.order.items ++ map (λ (n : NumberText). n.value) (drop l.number-index l.numbers) ≡ l.initial.order.items ++ map (λ (n : NumberText). n.value) l.numbers
