use Rattle.std.proofs.Common.{◌≡◌, ◌≤◌, ◌<◌, ◌+◌, ◌-◌}
use Rattle.paged_stack.proofs.stack.PagedStack.reserve.Given as goal

abbrev pub invariant-loop-self : goal.invariant-loop-self
invariant-loop-self g l = (l.self.items ≡ l.initial.self.items) × (l.initial.self.spare ≤ l.self.spare) × (l.initial.self.spare < l.n → l.self.spare < l.n + 1024) × (l.n ≤ l.initial.self.spare → l.self ≡ l.initial.self)

abbrev pub decreases-loop-self : goal.decreases-loop-self
decreases-loop-self g l = l.n - l.self.spare
