-- The places of variables in a table, by their numbers.
use Rattle.std.specs.Prelude.{ℕ, suc, nat_le, cond, ◌+◌, List, [], ◌∷◌, map, length, set, slice_index_or, replicate}
use Rattle.qc_model.specs.Content.{Game}
use Rattle.qdimacs.specs.Formula.{Formula}
use Rattle.qdimacs.specs.Content.{order, scope_of, variables_of, rule_of}

-- a table with the places of these variables, the first of which is k; those above the greatest are left out
abbrev pub filled_from : List ℕ → ℕ → ℕ → List ℕ → List ℕ
filled_from table most k [] = table
filled_from table most k (x ∷ xs) = filled_from (cond (nat_le x most) (set table x k) table) most (suc k) xs

abbrev pub filled : ℕ → ℕ → List ℕ → List ℕ
filled most k xs = filled_from (replicate (most + 1) 0) most k xs

-- the game of a formula, by the table
abbrev pub draft_of : ℕ → Formula → Game
draft_of most φ = record {
  scopes = map scope_of φ.blocks;
  variables = variables_of 0 φ.blocks;
  aggregates = [];
  constraints = map (rule_of (length φ.blocks) (λ x. slice_index_or (filled most 0 (order φ.blocks)) x 0)) φ.clauses;
}
