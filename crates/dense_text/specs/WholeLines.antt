-- Lines and values of tuples whose bytes are all there, read at once.
use Rattle.std.specs.Prelude.{ℕ, nat_eq, ◌≡◌, ◌<◌, ◌^◌, true, cond, Option, Some, None, List, [], ◌∷◌, ◌++◌, length, ℤ}
use Rattle.std.specs.Fmt.{signed_decimal}
use Rattle.lemma_text.specs.declared.parts.Field.{Field}
use Rattle.lemma_text.specs.Numerals.{value_fits}
use Rattle.dense_text.specs.declared.piece.Piece.{Piece}
use Rattle.dense_text.specs.declared.parts.Due.{Due}
use Rattle.dense_text.specs.declared.parts.Form.{Form}
use Rattle.dense_text.specs.declared.parts.Form.TheVariants.{NameLine, StuckLine, GoalLine, CloseLine, EmptyLine, BarredLine, BestLine, NextLine, SkipLine, OpenLine, DotLine}
use Rattle.dense_text.specs.Pieces.{piece_text, piece_fits}
use Rattle.dense_text.specs.Forms.{letter, piece_of}
use Rattle.dense_text.specs.Grammar.{Place, at_start, at_value, at, allows, open_after, place_after}
use Rattle.dense_text.specs.States.{may, state_at}
use Rattle.dense_text.specs.Kept.{Held, held}
use Rattle.dense_text.specs.Reader.{StandsFor, SaysWhole}

-- the lines that are a letter alone
abbrev pub short_lines : List Form
short_lines = NameLine ∷ StuckLine ∷ GoalLine ∷ CloseLine ∷ EmptyLine ∷ BarredLine ∷ BestLine ∷ NextLine ∷ SkipLine ∷ OpenLine ∷ DotLine ∷ []

-- the piece of the line that is that letter alone, where it may come
abbrev pub short_piece : Due → List Form → ℕ → Option Piece
short_piece d [] b = None
short_piece d (f ∷ fs) b = cond (nat_eq b (letter f)) (cond (may d f) (Some (piece_of f [] true)) None) (short_piece d fs b)

-- the bytes are a number of the field, the byte that ends it, and these
pub record ReadsNumber (g : Field) (end : ℕ) (bytes : List ℕ) (z : ℤ) (rest : List ℕ) : Type 0 where
  pub text : bytes ≡ signed_decimal z ++ end ∷ rest
  pub fits : value_fits g z ≡ true

-- the bytes are a piece that may come at the place, and these
pub record BeginsWith (p : Place) (i : Piece) (bytes rest : List ℕ) : Type 0 where
  pub text : bytes ≡ piece_text i ++ rest
  pub fits : piece_fits i ≡ true
  pub allowed : allows p i ≡ true

-- a piece begins, and this is its place
abbrev pub IsAt : Option Held → Place → Type 0
IsAt None p = ⊥
IsAt (Some h) p = h.state ≡ state_at p

-- the place of a line or of a tuple's value
abbrev pub IsAfterHead : Place → Type 0
IsAfterHead at_start = ⊥
IsAfterHead (at_value u) = Unit {0}
IsAfterHead (at d) = Unit {0}

-- what is kept after a piece
abbrev pub held_after : Option Held → Piece → Option Held
held_after None i = None
held_after (Some h) i = Some (held (open_after h.branches i) (state_at (place_after (open_after h.branches i) i)))

-- a reader that kept the one keeps the other after a piece with which the bytes begin, and these are left of them
pub record GoesOver (old new : Option Held) (bytes : List ℕ) (i : Piece) (rest : List ℕ) : Type 0 where
  pub text : bytes ≡ piece_text i ++ rest
  pub shorter : length rest < length bytes
  pub comes : (p : Place) × IsAt old p × IsAfterHead p × (allows p i ≡ true)
  pub stands : (before : List ℕ) (told : List Piece) → length (before ++ piece_text i) < 2 ^ 64 → StandsFor old before told → StandsFor new (before ++ piece_text i) (told ++ i ∷ [])
  pub says : (before : List ℕ) (told : List Piece) → length (before ++ piece_text i) < 2 ^ 64 → StandsFor old before told → SaysWhole (before ++ piece_text i) (told ++ i ∷ []) i
