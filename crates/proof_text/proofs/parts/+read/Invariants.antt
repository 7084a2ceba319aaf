use Rattle.std.proofs.Common.{◌≡◌, ◌≤◌, ◌++◌, ◌+◌, ◌*◌, length, true}
use Rattle.proof_tree.specs.Shape.{branches_of, pieces_of}
use Rattle.proof_tree.specs.Counts.{branch_depth}
use Rattle.proof_tree.specs.Text.{branches_fit}
use Rattle.proof_text.specs.Parts.{branches_text}
use Rattle.proof_text.specs.Reading.{PassesCase}
use Rattle.proof_text.proofs.parts.+read.Given as goal

abbrev pub decreases-node : goal.decreases-node
decreases-node l = 4 * length l.text.now + 4

abbrev pub decreases-body : goal.decreases-body
decreases-body l = 4 * length l.text.now + 3

abbrev pub decreases-cases : goal.decreases-cases
decreases-cases l = 4 * length l.text.now + 2

abbrev pub decreases-ending : goal.decreases-ending
decreases-ending l = 4 * length l.text.now + 1

abbrev pub decreases-next : goal.decreases-next
decreases-next l = 4 * length l.line.now + 3

abbrev pub decreases-branch : goal.decreases-branch
decreases-branch l = 4 * length l.line.now + 4

abbrev pub decreases-branches : goal.decreases-branches
decreases-branches l = 4 * length l.text.now + 5

abbrev pub decreases-piece : goal.decreases-piece
decreases-piece l = 4 * length l.text.now + 4

abbrev pub decreases-case : goal.decreases-case
decreases-case l = 4 * length l.text.now + 3

abbrev pub invariant-branches-loop-list : goal.invariant-branches-loop-list
invariant-branches-loop-list l = record {
  told : branches_text (branches_of (pieces_of l.list)) ++ l.rest ≡ l.text;
  fit : branches_fit l.version (branches_of (pieces_of l.list)) ≡ true;
  shallow : l.nesting + branch_depth (branches_of (pieces_of l.list)) ≤ 1000;
  shorter : length l.rest ≤ length l.text;
  goes : PassesCase l.version l.nesting l.text l.rest;
}

abbrev pub decreases-branches-loop-list : goal.decreases-branches-loop-list
decreases-branches-loop-list l = length l.rest
