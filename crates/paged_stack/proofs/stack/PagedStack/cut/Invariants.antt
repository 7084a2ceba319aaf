use Rattle.std.proofs.Common.{◌≡◌, ◌+◌, ◌≤◌, length, take}
use Rattle.paged_stack.proofs.stack.PagedStack.cut.Given as goal

abbrev pub invariant-loop-self : goal.invariant-loop-self
invariant-loop-self g l = (l.len ≤ length l.self.items) × (take l.len l.self.items ≡ take l.len l.initial.self.items) × (l.self.spare + length l.self.items ≡ l.initial.self.spare + length l.initial.self.items)

abbrev pub decreases-loop-self : goal.decreases-loop-self
decreases-loop-self g l = length l.self.items
