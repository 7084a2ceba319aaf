use Rattle.std.proofs.Common.{◌≤◌, ◌+◌, ◌*◌, length}
use Rattle.qc_play.specs.Walk.{game_of}
use Rattle.qc_play.proofs.CaseLines.{CasesLeft}
use Rattle.qc_play.proofs.walk.Walk.+walk.Given as goal

abbrev pub decreases-node : goal.decreases-node
decreases-node l = 8 * length l.lines.now

abbrev pub decreases-own_tree : goal.decreases-own_tree
decreases-own_tree l = 8 * length l.lines.now + 5

abbrev pub decreases-part : goal.decreases-part
decreases-part l = 8 * length l.lines.now + 4

abbrev pub decreases-end : goal.decreases-end
decreases-end l = 8 * length l.lines.now + 3

abbrev pub decreases-next : goal.decreases-next
decreases-next l = 8 * length l.lines.now + 1

abbrev pub decreases-branch : goal.decreases-branch
decreases-branch l = 8 * length l.lines.now + 2

abbrev pub decreases-case : goal.decreases-case
decreases-case l = 8 * length l.lines.now + 6

abbrev pub decreases-taken : goal.decreases-taken
decreases-taken l = 8 * length l.lines.now + 5

abbrev pub invariant-branch-loop-upto : goal.invariant-branch-loop-upto
invariant-branch-loop-upto l = record {
  left : CasesLeft (game_of l.tables) l.i.0 l.x.0 l.from l.fn.lines l.lines l.fn.self l.self l.fn.leaves l.leaves;
  shorter : length l.lines ≤ length l.fn.lines;
}

abbrev pub decreases-branch-loop-upto : goal.decreases-branch-loop-upto
decreases-branch-loop-upto l = length l.lines
