use Rattle.std.proofs.Common.{◌≡◌, None, drop}
use Rattle.part_commands.specs.Pieces.{first_unknown, keeps_of}
use Rattle.part_commands.specs.View.{keeps_seen}
use Rattle.part_commands.proofs.Naming.{put_all}
use Rattle.part_commands.proofs.keeps.find_keeps.Given as goal

-- those found so far stand before those that are left, which are there too
abbrev pub invariant-loop-kept : goal.invariant-loop-kept
invariant-loop-kept l = record {
  found : keeps_of l.problem (keeps_seen l.keeps) ≡ put_all l.found.items (keeps_of l.problem (keeps_seen (drop l.kept-index l.keeps)));
  known : first_unknown l.problem (keeps_seen (drop l.kept-index l.keeps)) ≡ None;
}
