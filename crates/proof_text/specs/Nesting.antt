-- What a tree owes after the line that is read, by the levels of its nesting.
use Rattle.std.specs.Prelude.{ℕ, zero, suc, Bool, false, cond, List, [], ◌∷◌, ◌++◌, get_or}
use Rattle.proof_tree.specs.declared.tree.Version.{Version}
use Rattle.proof_text.specs.declared.letters.Place.{Place}
use Rattle.proof_text.specs.Letters.{place_owes}
use Rattle.proof_text.specs.Symbols.{Symbol, branches}

-- the branches that are open at the levels up to this one, the deepest first
abbrev pub open_branches : Version → List Bool → ℕ → List Symbol
open_branches version marks zero = []
open_branches version marks (suc n) = cond (get_or marks (suc n) false) (branches version (suc n) ∷ open_branches version marks n) (open_branches version marks n)

-- all that is owed at the beginning of a line
abbrev pub tree_owes : Version → List Bool → ℕ → Place → List Symbol
tree_owes version marks n place = place_owes version n place ++ open_branches version marks n
