use Rattle.std.proofs.Common.{◌≡◌, ◌≤◌, ◌+◌, drop}
use Rattle.proof_tree.specs.Shape.{tree_of, ending_of, branches_of}
use Rattle.proof_tree.specs.Counts.{branch_opens, weight, ending_weight, branch_weight}
use Rattle.proof_tree.proofs.counts.opens.+opens.Given as goal

abbrev pub decreases-node_opens : goal.decreases-node_opens
decreases-node_opens l = weight (tree_of l.node.now)

abbrev pub decreases-end_opens : goal.decreases-end_opens
decreases-end_opens l = ending_weight (ending_of l.end.now)

abbrev pub decreases-case_opens : goal.decreases-case_opens
decreases-case_opens l = branch_weight (branches_of l.cases.now)

abbrev pub invariant-case_opens-loop-piece : goal.invariant-case_opens-loop-piece
invariant-case_opens-loop-piece l = record {
  told : l.count + branch_opens (branches_of (drop l.piece-index l.cases)) ≡ branch_opens (branches_of l.cases);
  less : branch_weight (branches_of (drop l.piece-index l.cases)) ≤ branch_weight (branches_of l.cases);
}
