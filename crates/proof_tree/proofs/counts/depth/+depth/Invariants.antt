use Rattle.std.proofs.Common.{◌≡◌, ◌≤◌, max, drop}
use Rattle.proof_tree.specs.Shape.{tree_of, ending_of, branches_of}
use Rattle.proof_tree.specs.Counts.{branch_depth, weight, ending_weight, branch_weight}
use Rattle.proof_tree.proofs.counts.depth.+depth.Given as goal

abbrev pub decreases-node_depth : goal.decreases-node_depth
decreases-node_depth l = weight (tree_of l.node.now)

abbrev pub decreases-end_depth : goal.decreases-end_depth
decreases-end_depth l = ending_weight (ending_of l.end.now)

abbrev pub decreases-case_depth : goal.decreases-case_depth
decreases-case_depth l = branch_weight (branches_of l.cases.now)

abbrev pub invariant-case_depth-loop-piece : goal.invariant-case_depth-loop-piece
invariant-case_depth-loop-piece l = record {
  told : max l.deepest (branch_depth (branches_of (drop l.piece-index l.cases))) ≡ branch_depth (branches_of l.cases);
  less : branch_weight (branches_of (drop l.piece-index l.cases)) ≤ branch_weight (branches_of l.cases);
}
