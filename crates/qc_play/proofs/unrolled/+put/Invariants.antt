use Rattle.std.proofs.Common.{◌≤◌, ◌+◌, ◌*◌, List, drop}
use Rattle.proof_tree.specs.declared.line.Line.{Line}
use Rattle.proof_tree.specs.Shape.{tree_of, ending_of, branches_of, case_of}
use Rattle.proof_tree.specs.Counts.{weight, ending_weight, branch_weight, case_weight}
use Rattle.proof_tree.specs.Lines.{branches_lines}
use Rattle.qc_play.proofs.Putting.{IsPut}
use Rattle.qc_play.proofs.unrolled.+put.Given as goal

abbrev pub decreases-put_node : goal.decreases-put_node
decreases-put_node l = 2 * weight (tree_of l.node.now)

abbrev pub decreases-put_part : goal.decreases-put_part
decreases-put_part l = 1 + 2 * ending_weight (ending_of l.cases.now.end)

abbrev pub decreases-put_end : goal.decreases-put_end
decreases-put_end l = 2 * ending_weight (ending_of l.end.now)

abbrev pub decreases-put_cases : goal.decreases-put_cases
decreases-put_cases l = 1 + 2 * branch_weight (branches_of l.cases.now)

abbrev pub decreases-put_case : goal.decreases-put_case
decreases-put_case l = 2 + 2 * case_weight (case_of l.case.now)

abbrev pub invariant-put_cases-loop-piece : goal.invariant-put_cases-loop-piece
invariant-put_cases-loop-piece l = record {
  put : (end : List Line) → IsPut l.lines.items end (branches_lines (branches_of (drop l.piece-index l.cases))) → IsPut l.fn.lines.items end (branches_lines (branches_of l.cases));
  less : branch_weight (branches_of (drop l.piece-index l.cases)) ≤ branch_weight (branches_of l.cases);
}
