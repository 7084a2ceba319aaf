use Rattle.std.proofs.Common.{◌≡◌, ◌≤◌, ◌<◌, ◌-◌}
use Rattle.paged_stack.specs.Links.{place_of}
use Rattle.paged_stack.proofs.nodes.Nodes.find_backward.Given as goal

abbrev pub invariant-loop-k : goal.invariant-loop-k
invariant-loop-k g l = (l.number ≤ l.k) × (l.k < l.self.len) × (l.at.ptr ≡ place_of l.self.links l.k)

abbrev pub decreases-loop-k : goal.decreases-loop-k
decreases-loop-k g l = l.k - l.number
