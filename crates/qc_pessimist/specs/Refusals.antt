-- Which owners meet the worst ties, and when no such reading can be given.
use Rattle.std.specs.Prelude.{◌<◌, ◌≤◌, ◌==◌, ℕ, Bool, true, false, length, slice_get, is_some, Option, Some, None, ⊤, IsTrue, IsFalse}
use Rattle.qc_model.specs.declared.problem.Scope.{Scope}
use Rattle.qc_model.specs.Content.{Game}
use Rattle.qc_pessimist.specs.declared.reading.Places.{Places}
use Rattle.qc_pessimist.specs.declared.reading.Places.TheVariants.{One, All}
use Rattle.qc_pessimist.specs.declared.reading.NoReading.{NoReading}
use Rattle.qc_pessimist.specs.declared.reading.NoReading.TheVariants.{NoCondition, TooManyScopes, Memory}
use Rattle.qc_pessimist.specs.Worst.{chosen_wish}
use Rattle.qc_pessimist.specs.Opposed.{with_opposing}

-- the numbers of the scopes asked for
abbrev pub is_chosen : Places → ℕ → Bool
is_chosen (One i) k = k == i.0
is_chosen All k = true

-- an existential scope with a condition
abbrev pub has_wish : Option Scope → Bool
has_wish None = false
has_wish (Some s) = is_some (chosen_wish true s.kind s.condition)

-- a single place names such a scope
abbrev pub names_a_wish : Places → Game → Bool
names_a_wish (One i) g = has_wish (slice_get g.scopes i.0)
names_a_wish All g = true

-- a reading is given: a scope is named, and there is room for those added
abbrev pub IsReadable : Places → Game → Type 0
IsReadable p g = IsTrue (names_a_wish p g) × (length (with_opposing (is_chosen p) 0 g.scopes) ≤ 64)

-- none is given for this
abbrev pub Refuses : NoReading → Places → Game → Type 0
Refuses NoCondition p g = IsFalse (names_a_wish p g)
Refuses TooManyScopes p g = IsTrue (names_a_wish p g) × (64 < length (with_opposing (is_chosen p) 0 g.scopes))
Refuses (Memory e) p g = ⊤
