use Rattle.std.proofs.Common.{◌≡◌, ◌++◌, drop, flat_map}
use Rattle.part_commands.specs.Pieces.{keep_line}
use Rattle.part_commands.specs.View.{keeps_seen}
use Rattle.part_commands.proofs.text.put_keeps.Given as goal

-- the lines so far and those that are left
abbrev pub invariant-loop-kept : goal.invariant-loop-kept
invariant-loop-kept l =
    l.head.items ++ flat_map keep_line (keeps_seen (drop l.kept-index l.keeps)) ≡ l.fn.head.items ++ flat_map keep_line (keeps_seen l.keeps)
