use Rattle.std.proofs.Common.{◌≡◌}
use Rattle.paged_stack.specs.Links.{place_of}
use Rattle.paged_stack.proofs.nodes.Nodes.find_forward.Given as goal

abbrev pub invariant-loop-k : goal.invariant-loop-k
invariant-loop-k g l = l.at.ptr ≡ place_of l.self.links l.k
