-- How large numbers are by the ends that they come from: goals, stuck nodes, empty boxes and barred tuples.
use Rattle.std.specs.Prelude.{◌≡◌, ◌≤◌, ◌*◌, ℕ, Bool, true, false, ◌&&◌, List, [], ◌∷◌}
use Rattle.qc_model.specs.Verdict.{Verdict, unknown, Seen, seen_barred, seen_skipped, seen_bound, seen_node, is_unknown}
use Rattle.qc_model.specs.ExistsVerdict.{some_open}
use Rattle.joins.specs.Sizes.{IsSized, nodes_at, marks_at}

-- of no leaf anything is known
abbrev pub tells_nothing : List Seen → Bool
tells_nothing [] = true
tells_nothing (seen_barred ∷ xs) = false
tells_nothing (seen_skipped ∷ xs) = tells_nothing xs
tells_nothing (seen_bound m ∷ xs) = tells_nothing xs
tells_nothing (seen_node v ∷ xs) = is_unknown v && tells_nothing xs

-- these come from n ends: each brings a value of a variable at most, and without any nothing is known
pub record HasEnds (n : ℕ) (xs : List Seen) : Type 0 where
  pub nodes : (k : ℕ) → nodes_at k xs ≤ n * 1000000000
  pub marks : marks_at xs ≤ 1000000000
  pub none : n ≡ 0 → tells_nothing xs ≡ true

-- this comes from n ends
pub record IsOfEnds (n : ℕ) (v : Verdict) : Type 0 where
  pub sized : IsSized n v
  pub none : n ≡ 0 → v ≡ unknown

-- some part of the scope's own tree has ended: with an end, or with a leaf of which nothing is known
abbrev pub HasPart : ℕ → List Seen → Type 0
HasPart n xs = n ≡ 0 → some_open xs ≡ true
