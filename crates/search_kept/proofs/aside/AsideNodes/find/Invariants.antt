use Rattle.std.proofs.Common.{◌≤◌, length}
use Rattle.search_kept.proofs.aside.AsideNodes.find.Given as goal

abbrev pub invariant-nodes : goal.invariant-nodes
invariant-nodes l = l.at ≤ length l.self.nodes.items

abbrev pub decreases-nodes : goal.decreases-nodes
decreases-nodes l = l.at
