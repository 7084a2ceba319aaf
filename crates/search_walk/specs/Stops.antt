-- How a way through the game may end before its end.
use Rattle.std.specs.Prelude.{⊤, Bool, IsTrue}
use Rattle.search_walk.specs.declared.stop.Stop.{Stop}
use Rattle.search_walk.specs.declared.stop.Stop.TheVariants.{Memory, Turns}

-- for want of turns only in a search that cuts
abbrev pub MayStop : Bool → Stop → Type 0
MayStop cuts (Memory refused) = ⊤
MayStop cuts Turns = IsTrue cuts
