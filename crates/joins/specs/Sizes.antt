-- How long vectors are, and how large numbers.
use Rattle.std.specs.Prelude.{⊤, ◌≤◌, ◌+◌, ◌*◌, ℕ, suc, max, List, [], ◌∷◌, ℤ, unsigned_abs, IsTrue}
use Rattle.std.specs.List.{list_all}
use Rattle.qc_model.specs.declared.problem.Condition.{Condition}
use Rattle.qc_model.specs.Content.{Game}
use Rattle.qc_model.specs.Valid.{is_number}
use Rattle.qc_model.specs.Demands.{demands}
use Rattle.qc_model.specs.Verdict.{Verdict, lost, exact, at_most, unknown, Seen, seen_barred, seen_skipped, seen_bound, seen_node}
use Rattle.joins.specs.Columns.{number_at}
use Rattle.joins.specs.ScopeJoins.{HasEach}

-- each exact leaf's vector has a value for each entry
abbrev pub EachHas : List Condition → List Seen → Type 0
EachHas d [] = ⊤
EachHas d (seen_barred ∷ xs) = EachHas d xs
EachHas d (seen_skipped ∷ xs) = EachHas d xs
EachHas d (seen_bound m ∷ xs) = EachHas d xs
EachHas d (seen_node v ∷ xs) = HasEach d v × EachHas d xs

-- the leaves of scope i have vectors for the list after it
abbrev pub AreLong : Game → ℕ → List Seen → Type 0
AreLong g i xs = EachHas (demands g (suc i)) xs

-- each number is at most b by absolute value
abbrev pub IsWithin : ℕ → Verdict → Type 0
IsWithin b lost = ⊤
IsWithin b (exact w) = (k : ℕ) → unsigned_abs (number_at k w) ≤ b
IsWithin b (at_most p) = unsigned_abs p ≤ b
IsWithin b unknown = ⊤

abbrev pub IsSized : ℕ → Verdict → Type 0
IsSized n v = IsWithin (n * 1000000000) v

-- the absolute values of the leaves' numbers at a place, summed; a number that stands alone counts at every place
abbrev pub nodes_at : ℕ → List Seen → ℕ
nodes_at k [] = 0
nodes_at k (seen_barred ∷ xs) = nodes_at k xs
nodes_at k (seen_skipped ∷ xs) = nodes_at k xs
nodes_at k (seen_bound m ∷ xs) = nodes_at k xs
nodes_at k (seen_node lost ∷ xs) = nodes_at k xs
nodes_at k (seen_node (exact w) ∷ xs) = unsigned_abs (number_at k w) + nodes_at k xs
nodes_at k (seen_node (at_most p) ∷ xs) = unsigned_abs p + nodes_at k xs
nodes_at k (seen_node unknown ∷ xs) = nodes_at k xs

-- the greatest absolute value of a bound's mark
abbrev pub marks_at : List Seen → ℕ
marks_at [] = 0
marks_at (seen_barred ∷ xs) = marks_at xs
marks_at (seen_skipped ∷ xs) = marks_at xs
marks_at (seen_bound m ∷ xs) = max (unsigned_abs m) (marks_at xs)
marks_at (seen_node v ∷ xs) = marks_at xs

-- leaves are summed, since an opponent's scope may; of bounds, which the player's own scope has, one is taken
abbrev pub total_at : ℕ → List Seen → ℕ
total_at k xs = max (marks_at xs) (nodes_at k xs)

-- as large as n values of variables, at each place
abbrev pub HasSizes : ℕ → List Seen → Type 0
HasSizes n xs = (k : ℕ) → total_at k xs ≤ n * 1000000000

-- values of variables
abbrev pub AreNumbers : List ℤ → Type 0
AreNumbers a = IsTrue (list_all is_number a)
