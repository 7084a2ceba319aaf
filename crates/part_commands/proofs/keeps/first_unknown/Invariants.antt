use Rattle.std.proofs.Common.{◌≡◌, drop}
use Rattle.part_commands.specs.Pieces.{first_unknown}
use Rattle.part_commands.specs.View.{keeps_seen}
use Rattle.part_commands.proofs.keeps.first_unknown.Given as goal

-- the names so far are there
abbrev pub invariant-loop-kept : goal.invariant-loop-kept
invariant-loop-kept l = first_unknown l.problem (keeps_seen l.keeps) ≡ first_unknown l.problem (keeps_seen (drop l.kept-index l.keeps))
