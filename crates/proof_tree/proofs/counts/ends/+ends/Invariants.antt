use Rattle.std.proofs.Common.{◌≡◌, ◌≤◌, ◌+◌, drop}
use Rattle.proof_tree.specs.Shape.{tree_of, ending_of, branches_of}
use Rattle.proof_tree.specs.Counts.{branch_ends, weight, ending_weight, branch_weight}
use Rattle.proof_tree.proofs.counts.ends.+ends.Given as goal

abbrev pub decreases-node_ends : goal.decreases-node_ends
decreases-node_ends l = weight (tree_of l.node.now)

abbrev pub decreases-end_ends : goal.decreases-end_ends
decreases-end_ends l = ending_weight (ending_of l.end.now)

abbrev pub decreases-case_ends : goal.decreases-case_ends
decreases-case_ends l = branch_weight (branches_of l.cases.now)

abbrev pub invariant-case_ends-loop-piece : goal.invariant-case_ends-loop-piece
invariant-case_ends-loop-piece l = record {
  told : l.count + branch_ends (branches_of (drop l.piece-index l.cases)) ≡ branch_ends (branches_of l.cases);
  less : branch_weight (branches_of (drop l.piece-index l.cases)) ≤ branch_weight (branches_of l.cases);
}
