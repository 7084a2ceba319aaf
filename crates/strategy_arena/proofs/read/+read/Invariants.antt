use Rattle.std.proofs.Common.{◌≡◌, ◌≤◌, ◌++◌, ◌+◌, ◌*◌, length}
use Rattle.proof_tree.specs.Shape.{branches_of, pieces_of}
use Rattle.proof_tree.specs.Lines.{branches_lines}
use Rattle.strategy_arena.proofs.read.+read.Given as goal

abbrev pub decreases-node : goal.decreases-node
decreases-node l = 6 * length l.lines.now

abbrev pub decreases-body : goal.decreases-body
decreases-body l = 6 * length l.lines.now + 4

abbrev pub decreases-part : goal.decreases-part
decreases-part l = 6 * length l.lines.now + 3

abbrev pub decreases-end : goal.decreases-end
decreases-end l = 6 * length l.lines.now + 2

abbrev pub decreases-branches : goal.decreases-branches
decreases-branches l = 6 * length l.lines.now + 1

abbrev pub decreases-piece : goal.decreases-piece
decreases-piece l = 6 * length l.lines.now

abbrev pub decreases-case : goal.decreases-case
decreases-case l = 6 * length l.lines.now + 4

abbrev pub invariant-branches-loop-list : goal.invariant-branches-loop-list
invariant-branches-loop-list l = record {
  told : branches_lines (branches_of (pieces_of l.list)) ++ l.lines ≡ l.fn.lines;
  shorter : length l.lines ≤ length l.fn.lines;
}

abbrev pub decreases-branches-loop-list : goal.decreases-branches-loop-list
decreases-branches-loop-list l = length l.lines
