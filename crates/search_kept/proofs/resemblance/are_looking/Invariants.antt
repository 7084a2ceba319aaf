use Rattle.std.proofs.Common.{◌≡◌, length}
use Rattle.std.specs.List.{list_all}
use Rattle.likeness.specs.Likeness.{line_looks}
use Rattle.search_kept.proofs.resemblance.are_looking.Given as goal

abbrev pub invariant-loop-line : goal.invariant-loop-line
invariant-loop-line l = list_all (line_looks l.level.problem.now l.level.number) l.lines ≡ list_all (line_looks l.level.problem.now l.level.number) l.fn.lines

abbrev pub decreases-loop-line : goal.decreases-loop-line
decreases-loop-line l = length l.lines
