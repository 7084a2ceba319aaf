use Rattle.std.proofs.Common.{◌≤◌, ◌+◌, ◌*◌, drop}
use Rattle.proof_tree.specs.Shape.{tree_of, ending_of, branches_of, case_of}
use Rattle.proof_tree.specs.Counts.{weight, ending_weight, branch_weight, case_weight}
use Rattle.proof_tree.specs.Lines.{branches_lines}
use Rattle.check_lines.specs.Machine.{IsReady}
use Rattle.qc_check.specs.declared.space.Space.{Space}
use Rattle.qc_check.specs.Giving.{Takes}
use Rattle.qc_check.proofs.giving.+give.Given as goal

abbrev pub decreases-give_node : goal.decreases-give_node
decreases-give_node l = 2 * weight (tree_of l.node.now)

abbrev pub decreases-give_cases : goal.decreases-give_cases
decreases-give_cases l = 1 + 2 * ending_weight (ending_of l.cases.now.end)

abbrev pub decreases-give_end : goal.decreases-give_end
decreases-give_end l = 2 * ending_weight (ending_of l.end.now)

abbrev pub decreases-give_case_list : goal.decreases-give_case_list
decreases-give_case_list l = 1 + 2 * branch_weight (branches_of l.cases.now)

abbrev pub decreases-give_case : goal.decreases-give_case
decreases-give_case l = 2 + 2 * case_weight (case_of l.case.now)

abbrev pub invariant-give_case_list-loop-piece : goal.invariant-give_case_list-loop-piece
invariant-give_case_list-loop-piece l = record {
  ready : IsReady l.space.machine;
  takes : (end : Space) → Takes l.space end (branches_lines (branches_of (drop l.piece-index l.cases))) → Takes l.fn.space end (branches_lines (branches_of l.cases));
  less : branch_weight (branches_of (drop l.piece-index l.cases)) ≤ branch_weight (branches_of l.cases);
}
