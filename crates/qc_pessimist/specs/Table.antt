-- The new places as a table.
use Rattle.std.specs.Prelude.{ℕ, suc, ◌+◌, Bool, List, [], ◌∷◌, length, slice_index_or}
use Rattle.qc_model.specs.declared.problem.Scope.{Scope}
use Rattle.qc_pessimist.specs.Opposed.{added_after}

-- the new place of each of the scopes, and last of the goal, where the first scope has the number i and comes to the place n
abbrev pub places_from : (ℕ → Bool) → ℕ → List Scope → ℕ → List ℕ
places_from q i [] n = n ∷ []
places_from q i (s ∷ later) n = n ∷ places_from q (suc i) later (n + 1 + length (added_after q i s))

-- what stands in the table
abbrev pub place_in : List ℕ → ℕ → ℕ
place_in table k = slice_index_or table k 0
