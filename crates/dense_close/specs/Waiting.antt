-- The constraints that wait to be looked at.
use Rattle.std.specs.Prelude.{◌≤◌, ◌+◌, ◌==◌, ℕ, Bool, true, false, List, [], ◌∷◌, length, slice_index_or, IsTrue}
use Rattle.std.specs.List.{list_any, list_all}
use Rattle.qc_model.specs.declared.problem.ConId.{ConId}

-- in order, with a mark for each constraint
pub record Waiting : Type 0 where
  pub marks : List Bool
  pub queue : List ConId

-- so many marks are set
abbrev pub marked : List Bool → ℕ
marked [] = 0
marked (true ∷ marks) = marked marks + 1
marked (false ∷ marks) = marked marks

-- no more wait than are marked, and there is a place for each mark among the early ones and among the late ones
pub record HasRoom (waiting early late : ℕ) (marks : List Bool) : Type 0 where
  pub few : waiting ≤ marked marks
  pub early_places : length marks ≤ early
  pub late_places : length marks ≤ late

abbrev pub is_marked : Waiting → ℕ → Bool
is_marked w k = slice_index_or w.marks k false

abbrev pub stands_in : List ConId → ℕ → Bool
stands_in cs k = list_any (λ c. c.0 == k) cs

-- each constraint with a mark waits
abbrev pub MarkedWait : Waiting → Type 0
MarkedWait w = (k : ℕ) → IsTrue (is_marked w k) → IsTrue (stands_in w.queue k)

-- each that waits has a number that passes
abbrev pub all_waiting : (ℕ → Bool) → Waiting → Bool
all_waiting ok w = list_all (λ c. ok c.0) w.queue
