use Rattle.std.proofs.Common.{◌≡◌, ◌≤◌, ◌+◌, length}
use Rattle.search_kept.specs.Ends.{ends_in}
use Rattle.search_kept.proofs.turns.count_ends.Given as goal

abbrev pub invariant-loop-line : goal.invariant-loop-line
invariant-loop-line l = record {
  counted : l.count + ends_in l.cursor ≡ ends_in l.lines;
  few : l.count + length l.cursor ≤ length l.lines;
}

abbrev pub decreases-loop-line : goal.decreases-loop-line
decreases-loop-line l = length l.cursor
