-- What is open, the last first.
use Rattle.std.specs.Prelude.{⊤, List, [], ◌∷◌}
use Rattle.dense_nest.specs.declared.place.Open.{Open}
use Rattle.dense_nest.specs.declared.place.Open.TheVariants.{Waiting, Forked}

-- all but the one that was opened last
abbrev pub rest : List Open → List Open
rest [] = []
rest (o ∷ os) = os

-- what was opened last isn't a branch
abbrev pub IsUnforked : List Open → Type 0
IsUnforked [] = ⊤
IsUnforked (Waiting up ∷ os) = ⊤
IsUnforked (Forked k ∷ os) = ⊥
