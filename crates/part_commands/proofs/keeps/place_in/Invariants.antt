use Rattle.std.proofs.Common.{◌≡◌, drop}
use Rattle.part_commands.specs.Pieces.{place_from}
use Rattle.part_commands.proofs.keeps.place_in.Given as goal

-- none of the variables so far has the name
abbrev pub invariant-loop-k : goal.invariant-loop-k
invariant-loop-k l = place_from 0 l.variables l.name ≡ place_from l.k (drop l.k l.variables) l.name
