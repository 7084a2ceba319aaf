-- What a reader of certificates was given, and what it told.
use Rattle.std.specs.Prelude.{ℕ, ◌+◌, ◌≤◌, ◌<◌, ◌≡◌, ◌^◌, List, [], ◌∷◌, ◌++◌, length, flat_map, Option, Some, None, IsTrue, ℤ}
use Rattle.proof_tree.specs.declared.tree.Outcome.{Outcome}
use Rattle.dense_tree.specs.Tree.{Certificate}
use Rattle.dense_tree.specs.Text.{certificate_text, has_text}
use Rattle.dense_text.specs.declared.piece.Piece.{Piece}
use Rattle.dense_text.specs.declared.reader.Fed.{Fed}
use Rattle.dense_text.specs.declared.reader.Fed.TheVariants.{More, Whole, Bad}
use Rattle.dense_text.specs.declared.reader.End.{End}
use Rattle.dense_text.specs.declared.reader.End.TheVariants.{Whole as WholeEnd, CutShort, Bad as BadEnd}
use Rattle.dense_text.specs.Pieces.{piece_text, piece_fits, certificate_pieces}
use Rattle.dense_text.specs.Grammar.{at_start, accepts, place_after}
use Rattle.dense_text.specs.States.{state_at}
use Rattle.dense_text.specs.Standing.{Standing, going, no_text, next_standing, standing}
use Rattle.dense_text.specs.Kept.{Held, held}
use Rattle.dense_text.specs.Telling.{Tells}
use Rattle.dense_text.specs.Places.{BeginsText, IsFault}

-- what was told, with one answer more
abbrev pub tell : List Piece → Fed → List Piece
tell told More = told
tell told (Whole piece) = told ++ piece ∷ []
tell told Bad = told

-- the bytes' standing, where a reader kept this and told these pieces
abbrev pub standing_of : List Piece → Option Held → Standing
standing_of told None = no_text
standing_of told (Some h) = going told h.branches h.state

-- the reader was given these bytes, and told these pieces
abbrev pub StandsFor : Option Held → List ℕ → List Piece → Type 0
StandsFor kept bytes told = (standing bytes ≡ standing_of told kept) × Tells (standing_of told kept) bytes

-- fewer branches are open than a reader can count
abbrev pub HasRoom : Option Held → Type 0
HasRoom None = Unit {0}
HasRoom (Some h) = h.branches + 1 < 2 ^ 64

-- a reader that kept the one keeps the other after a byte, and tells this
abbrev pub GoesTo : Option Held → Fed → Type 0
GoesTo new More = (h : Held) × (new ≡ Some h)
GoesTo new (Whole piece) = (n : ℕ) × (new ≡ Some (held n (state_at (place_after n piece))))
GoesTo new Bad = new ≡ None

abbrev pub Goes : Option Held → ℕ → Option Held → Fed → Type 0
Goes old b new fed = HasRoom old → ((told : List Piece) → next_standing (standing_of told old) b ≡ standing_of (tell told fed) new) × GoesTo new fed

-- the first fault of the bytes was reached by now, and is at the last byte where the bytes before it begin a text
pub record HasStopped (bytes : List ℕ) (b : ℕ) : Type 0 where
  pub place : ℕ
  pub within : place ≤ length bytes
  pub is : IsFault place (bytes ++ b ∷ [])
  pub here : BeginsText bytes → place ≡ length bytes

-- what the last of these pieces says of the bytes, with which it ends
abbrev pub SaysWhole : List ℕ → List Piece → Piece → Type 0
SaysWhole bytes told piece = BeginsText bytes × (bytes ≡ flat_map piece_text told) × IsTrue (piece_fits piece) × IsTrue (accepts at_start 0 told)

-- what an answer says of a byte, after the bytes before it and the pieces that they told
abbrev pub Says : List ℕ → List Piece → ℕ → Fed → Type 0
Says bytes told b More = BeginsText (bytes ++ b ∷ [])
Says bytes told b (Whole piece) = SaysWhole (bytes ++ b ∷ []) (told ++ piece ∷ []) piece
Says bytes told b Bad = HasStopped bytes b

-- the bytes are the text of a certificate, and its pieces were told
abbrev pub IsTold : List ℕ → List Piece → Type 0
IsTold bytes told =
    (outcome : Outcome) × (optimum : Option ℤ) × (c : Certificate) × IsTrue (has_text outcome optimum c) × (bytes ≡ certificate_text outcome optimum c) × (told ≡ certificate_pieces outcome optimum c)

-- what the bytes are that end here
abbrev pub Ends : List ℕ → List Piece → End → Type 0
Ends bytes told WholeEnd = IsTold bytes told
Ends bytes told CutShort = BeginsText bytes × IsFault (length bytes) bytes
Ends bytes told BadEnd = (place : ℕ) × (place < length bytes) × IsFault place bytes
