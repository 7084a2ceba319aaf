-- What a reader of lines was given, and what it told.
use Rattle.std.specs.Prelude.{ℕ, ◌≤◌, ◌<◌, ◌≡◌, List, [], ◌∷◌, ◌++◌, length, take, flat_map, Bool, true, false, ◌&&◌, Option, ℤ, IsTrue}
use Rattle.std.specs.List.{list_all}
use Rattle.proof_tree.specs.declared.tree.Version.{Version}
use Rattle.proof_tree.specs.declared.tree.Outcome.{Outcome}
use Rattle.proof_tree.specs.declared.line.Line.{Line}
use Rattle.proof_tree.specs.Tree.{Tree}
use Rattle.proof_tree.specs.Counts.{depth_of}
use Rattle.proof_tree.specs.Lines.{tree_lines}
use Rattle.proof_tree.specs.Text.{certificate_text, has_text, version_text, outcome_text, outcome_fits, line_text}
use Rattle.proof_text.specs.declared.answer.Read.{Read}
use Rattle.proof_text.specs.declared.answer.Read.TheVariants.{Within, Head, Whole, TooDeep, Bad}
use Rattle.proof_text.specs.LineRanges.{line_fits}
use Rattle.proof_text.specs.Places.{BeginsText, IsNotACertificate, IsTooDeep}
use Rattle.proof_text.specs.Standing.{standing}
use Rattle.proof_text.specs.Readings.{Reading, IsGoing}

-- what was told so far: nothing, or the head and lines of the tree
pub data Told : Type 0 where
  nothing : Told
  headed : Version → Outcome → Option ℤ → List Line → Told

abbrev pub told_text : Told → List ℕ
told_text nothing = []
told_text (headed version outcome optimum lines) = version_text version ++ outcome_text outcome optimum ++ flat_map line_text lines

-- its numbers are of the ranges that a text can have
abbrev pub told_fits : Told → Bool
told_fits nothing = true
told_fits (headed version outcome optimum lines) = outcome_fits outcome optimum && list_all line_fits lines

-- what was told, with one answer more
abbrev pub tell : Told → Read → Told
tell told Within = told
tell told (Head version outcome optimum) = headed version outcome optimum []
tell nothing (Whole line) = nothing
tell (headed version outcome optimum lines) (Whole line) = headed version outcome optimum (lines ++ line ∷ [])
tell told TooDeep = told
tell told Bad = told

-- what was told, with these lines more
abbrev pub tell_all : Told → List Line → Told
tell_all nothing ls = nothing
tell_all (headed version outcome optimum lines) ls = headed version outcome optimum (lines ++ ls)

abbrev pub is_nothing : Told → Bool
is_nothing nothing = true
is_nothing (headed version outcome optimum lines) = false

-- the reading is of these bytes, and told this: while they begin a text, what was told, written, is
-- the bytes but for the unfinished ones
pub record StandsFor (r : Reading) (bytes : List ℕ) (told : Told) : Type 0 where
  pub standing : standing bytes ≡ r.standing
  pub text : IsGoing r.standing → bytes ≡ told_text told ++ r.unfinished
  pub head : IsGoing r.standing → r.in_head ≡ is_nothing told
  pub fits : IsTrue (told_fits told)

-- the bytes are a whole text, and what was told is its head and its lines
abbrev pub IsTold : List ℕ → Told → Type 0
IsTold bytes told =
    (version : Version) × (outcome : Outcome) × (optimum : Option ℤ) × (t : Tree) × IsTrue (has_text version outcome optimum t) × (depth_of t ≤ 1000)
    × (bytes ≡ certificate_text version outcome optimum t) × (told ≡ headed version outcome optimum (tree_lines t))

-- the first fault of the bytes is at a place that was reached by now, and at the last byte where the
-- bytes before it begin a text
pub record HasStopped (IsFaultAt : ℕ → List ℕ → Type 0) (bytes : List ℕ) (b : ℕ) : Type 0 where
  pub at : ℕ
  pub within : at ≤ length bytes
  pub is : IsFaultAt at (bytes ++ b ∷ [])
  pub here : BeginsText 1000 bytes → at ≡ length bytes

-- what an answer says of a byte, after the bytes before it and what was told of them
abbrev pub Says : List ℕ → Told → ℕ → Read → Type 0
Says bytes told b Within = BeginsText 1000 (bytes ++ b ∷ []) × (b ≡ 10 → (told ≡ nothing) × (version : Version) × (bytes ++ b ∷ [] ≡ version_text version))
Says bytes told b (Head version outcome optimum) =
    BeginsText 1000 (bytes ++ b ∷ []) × (told ≡ nothing) × (bytes ++ b ∷ [] ≡ version_text version ++ outcome_text outcome optimum) × IsTrue (outcome_fits outcome optimum)
Says bytes told b (Whole line) = BeginsText 1000 (bytes ++ b ∷ []) × (is_nothing told ≡ false) × (bytes ++ b ∷ [] ≡ told_text told ++ line_text line) × IsTrue (line_fits line)
Says bytes told b TooDeep = HasStopped IsTooDeep bytes b
Says bytes told b Bad = HasStopped IsNotACertificate bytes b

-- the bytes begin with a whole line, which has so many
abbrev pub BeginsLine : List ℕ → Line → ℕ → Type 0
BeginsLine bytes line n = (0 < n) × (n ≤ length bytes) × (take n bytes ≡ line_text line)

-- what a whole line says of its bytes, after the bytes before it and what was told of them
abbrev pub SaysLine : List ℕ → Told → List ℕ → Line → Type 0
SaysLine before told bytes line = BeginsText 1000 (before ++ bytes) × (is_nothing told ≡ false) × (before ++ bytes ≡ told_text told ++ line_text line) × IsTrue (line_fits line)
