-- Values that stand alone in a box.
use Rattle.std.specs.Prelude.{◌≡◌, ℕ, List, [], ◌∷◌, map, take, ℤ}
use Rattle.qc_model.specs.Content.{Game}
use Rattle.qc_model.specs.Domains.{Box, Values}
use Rattle.qc_model.specs.Game.{before}

abbrev pub only : ℤ → Values
only v = v ∷ []

-- the values of the variables before scope i, which are the first of these
abbrev pub values_to : Game → ℕ → List ℤ → List ℤ
values_to g i vs = take (before g i) vs

-- in the box each variable before scope i has the one value that it has among these
abbrev pub IsAt : Game → ℕ → List ℤ → Box → Type 0
IsAt g i vs box = take (before g i) box ≡ map only (values_to g i vs)
