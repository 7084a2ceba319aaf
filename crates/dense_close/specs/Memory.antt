-- What a closer remembers: what was seen of each variable, and which constraints were settled then.
use Rattle.std.specs.Prelude.{◌≡◌, ◌≢◌, ◌<◌, ℕ, Bool, true, List, ◌∷◌, length, slice_get, slice_index_or, Some, IsTrue, IsFalse, pos}
use Rattle.qc_model.specs.Arguments.{variables_of}
use Rattle.qc_model.specs.Content.{Game, Rule}
use Rattle.qc_model.specs.Domains.{Values, Box, values_left}
use Rattle.qc_model.specs.Lists.{Among, numbers_from}
use Rattle.dense_closing.specs.Takes.{keeps_box}
use Rattle.dense_close.specs.declared.memory.Sight.{Sight}
use Rattle.dense_quiet.specs.declared.taking.Taking.{Taking}
use Rattle.dense_close.specs.Index.{Having, has_it}
use Rattle.dense_quiet.specs.Taking.{takes_of}

-- with the trail's length when it was settled
pub record Memory : Type 0 where
  pub seen : List Sight
  pub pending : List Bool
  pub at : ℕ

-- nothing is known of the values
abbrev pub nothing : Sight
nothing = record { least = pos 0; count = 0 }

abbrev pub seen_of : Memory → ℕ → Sight
seen_of m x = slice_index_or m.seen x nothing

-- constraint k may be unsettled
abbrev pub is_pending : Memory → ℕ → Bool
is_pending m k = slice_index_or m.pending k true

-- the values are what was seen, if anything was
abbrev pub TellsOf : Sight → Values → Type 0
TellsOf s vs = s.count ≢ 0 → vs ≡ numbers_from s.least s.count

-- the values are what was seen
pub record IsSeen (s : Sight) (vs : Values) : Type 0 where
  pub some : s.count ≢ 0
  pub same : vs ≡ numbers_from s.least s.count

-- a constraint that isn't pending keeps each box of the game in which its variables have what was seen of them
abbrev pub IsSettledAsSeen : Taking → Game → Memory → Type 0
IsSettledAsSeen t g m =
    (k : ℕ) (c : Rule) (box : Box) → slice_get g.constraints k ≡ Some c → IsFalse (is_pending m k) → length box ≡ length g.variables →
    ((x : ℕ) → Among x (variables_of c.args) → IsSeen (seen_of m x) (values_left box x)) → IsTrue (keeps_box (takes_of t g) box c)

pub record IsMemory (t : Taking) (g : Game) (m : Memory) : Type 0 where
  pub variables : length m.seen ≡ length g.variables
  pub constraints : length m.pending ≡ length g.constraints
  pub settled : IsSettledAsSeen t g m

-- x was looked at: the constraints that have it are pending
pub record HasSeen (h : Having) (x : ℕ) (now : Sight) (was then : Memory) : Type 0 where
  pub variables : length then.seen ≡ length was.seen
  pub constraints : length then.pending ≡ length was.pending
  pub others : (y : ℕ) → y ≢ x → seen_of then y ≡ seen_of was y
  pub own : seen_of then x ≡ now
  pub kept : (k : ℕ) → IsTrue (is_pending was k) → IsTrue (is_pending then k)
  pub told : (k : ℕ) → IsTrue (has_it h k x) → IsTrue (is_pending then k)

-- x, which has these values, was looked at: the constraints that have it are pending, unless what is left to it was seen before
pub record HasLooked (h : Having) (x : ℕ) (vs : Values) (was then : Memory) : Type 0 where
  pub variables : length then.seen ≡ length was.seen
  pub constraints : length then.pending ≡ length was.pending
  pub others : (y : ℕ) → y ≢ x → seen_of then y ≡ seen_of was y
  pub own : TellsOf (seen_of then x) vs
  pub kept : (k : ℕ) → IsTrue (is_pending was k) → IsTrue (is_pending then k)
  pub same : (k : ℕ) → IsTrue (has_it h k x) → IsFalse (is_pending then k) → seen_of then x ≡ seen_of was x
  pub seen : (k : ℕ) → IsTrue (has_it h k x) → IsFalse (is_pending then k) → IsSeen (seen_of then x) vs

-- these variables were looked at: what was seen of them is so, and something was where a constraint that isn't pending has them
pub record IsSeenOf (looked : ℕ → Type 0) (t : Taking) (g : Game) (m : Memory) (box : Box) : Type 0 where
  pub memory : IsMemory t g m
  pub tells : (x : ℕ) → looked x → TellsOf (seen_of m x) (values_left box x)
  pub some : (k : ℕ) (c : Rule) (x : ℕ) → slice_get g.constraints k ≡ Some c → IsFalse (is_pending m k) → looked x → Among x (variables_of c.args) → IsSeen (seen_of m x) (values_left box x)

-- the first n variables were
abbrev pub IsAsSeen : ℕ → Taking → Game → Memory → Box → Type 0
IsAsSeen n t g m box = IsSeenOf (λ x. x < n) t g m box

-- x has the same values in both boxes
abbrev pub IsUnchanged : Game → Box → Box → ℕ → Type 0
IsUnchanged g was box x = (x < length g.variables) × (values_left was x ≡ values_left box x)

-- one that closings work in, and those that are kept
pub record Memories : Type 0 where
  pub present : Memory
  pub kept : List Memory

-- it is one of them
abbrev pub IsOneOf : Memory → Memories → Type 0
IsOneOf m ms = Among m (ms.present ∷ ms.kept)

abbrev pub AreMemories : Taking → Game → Memories → Type 0
AreMemories t g ms = (m : Memory) → IsOneOf m ms → IsMemory t g m

-- each of these was one of those
abbrev pub ComeFrom : Memories → Memories → Type 0
ComeFrom was then = (m : Memory) → IsOneOf m then → IsOneOf m was

-- so much was seen, and is pending, in both
pub record IsAlike (one other : Memory) : Type 0 where
  pub variables : length one.seen ≡ length other.seen
  pub constraints : length one.pending ≡ length other.pending
