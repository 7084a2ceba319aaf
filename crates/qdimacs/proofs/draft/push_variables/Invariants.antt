use Rattle.std.proofs.Common.{◌≡◌, ◌++◌, drop, map}
use Rattle.qdimacs.specs.Content.{variable_of}
use Rattle.qdimacs.specs.declared.tree.NumberText.{NumberText}
use Rattle.qdimacs.proofs.draft.push_variables.Given as goal

abbrev pub invariant-loop-number : goal.invariant-loop-number
invariant-loop-number l = l.variables.items ++ map (variable_of l.scope) (map (λ (n : NumberText). n.value) (drop l.number-index l.numbers)) ≡ l.initial.variables.items ++ map (variable_of l.scope) (map (λ (n : NumberText). n.value) l.numbers)
