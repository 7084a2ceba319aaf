-- The numbers that the text of a line can have.
use Rattle.std.specs.Prelude.{nat_le, Bool, true, ◌&&◌}
use Rattle.qc_model.specs.Valid.{is_number}
use Rattle.proof_tree.specs.declared.line.Line.{Line}
use Rattle.proof_tree.specs.declared.line.Line.TheVariants.{Horizon, Prune, Bound, Dot, Stuck, Goal, Empty, Barred, Next, Branch, Skip, Open, Range}
use Rattle.proof_tree.specs.Text.{is_place}

abbrev pub line_fits : Line → Bool
line_fits (Horizon k) = nat_le 1 k && nat_le k 65
line_fits (Prune x low high c) = is_place 500 x.0 && is_number low && is_number high && is_place 20000 c.0
line_fits (Bound x low high) = is_place 500 x.0 && is_number low && is_number high
line_fits Dot = true
line_fits Stuck = true
line_fits Goal = true
line_fits Empty = true
line_fits Barred = true
line_fits Next = true
line_fits (Branch x) = is_place 500 x.0
line_fits Skip = true
line_fits Open = true
line_fits (Range high) = is_number high
