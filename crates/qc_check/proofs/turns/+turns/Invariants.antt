use Rattle.std.proofs.Common.{◌≡◌, ◌≤◌, ◌+◌, ◌-◌, ◌^◌, min, drop}
use Rattle.proof_tree.specs.Shape.{tree_of, ending_of, branches_of}
use Rattle.proof_tree.specs.Counts.{branch_turns, weight, ending_weight, branch_weight}
use Rattle.qc_check.proofs.turns.+turns.Given as goal

abbrev pub decreases-node_turns : goal.decreases-node_turns
decreases-node_turns l = weight (tree_of l.node.now)

abbrev pub decreases-end_turns : goal.decreases-end_turns
decreases-end_turns l = ending_weight (ending_of l.end.now)

abbrev pub decreases-case_turns : goal.decreases-case_turns
decreases-case_turns l = branch_weight (branches_of l.cases.now)

abbrev pub invariant-case_turns-loop-piece : goal.invariant-case_turns-loop-piece
invariant-case_turns-loop-piece l = record {
  fits : l.count ≤ 2 ^ 128 - 1;
  told : min (l.count + branch_turns (branches_of (drop l.piece-index l.cases))) (2 ^ 128 - 1) ≡ min (branch_turns (branches_of l.cases)) (2 ^ 128 - 1);
  less : branch_weight (branches_of (drop l.piece-index l.cases)) ≤ branch_weight (branches_of l.cases);
}
