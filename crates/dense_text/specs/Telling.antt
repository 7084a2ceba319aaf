-- What reading byte by byte says of the bytes.
use Rattle.std.specs.Prelude.{ℕ, ◌<◌, ◌≤◌, ◌≡◌, Bool, true, false, Option, List, ◌++◌, length, flat_map, IsTrue, ℤ}
use Rattle.std.specs.List.{list_all}
use Rattle.proof_tree.specs.declared.tree.Outcome.{Outcome}
use Rattle.dense_tree.specs.Tree.{Certificate}
use Rattle.dense_tree.specs.Text.{certificate_text, has_text}
use Rattle.dense_text.specs.declared.piece.Piece.{Piece}
use Rattle.dense_text.specs.declared.parts.Due.{Due}
use Rattle.dense_text.specs.declared.parts.Due.TheVariants.{Ended}
use Rattle.dense_text.specs.Pieces.{piece_text, piece_fits, certificate_pieces}
use Rattle.dense_text.specs.Grammar.{at_start, accepts, end_open}
use Rattle.dense_text.specs.States.{State, word, outcome, won, due, lettered, number}
use Rattle.dense_text.specs.Standing.{Standing, going, no_text}
use Rattle.dense_text.specs.Unfinished.{pending}
use Rattle.dense_text.specs.Places.{IsText, BeginsText, IsFault}

-- nothing more may come
abbrev pub is_last : Due → Bool
is_last Ended = true
is_last d = false

abbrev pub is_ended : State → Bool
is_ended (word w read) = false
is_ended outcome = false
is_ended won = false
is_ended (due d) = is_last d
is_ended (lettered f) = false
is_ended (number f vs gs n) = false

-- The bytes begin a text: the whole pieces may stand there one after the other, and leave so many branches open; they and what
-- is read of another are spelled so, and each certificate whose text begins with the bytes begins with these pieces. The bytes
-- are a text exactly where nothing more may come
pub record IsGoing (bytes : List ℕ) (told : List Piece) (n : ℕ) (s : State) : Type 0 where
  pub begins : BeginsText bytes
  pub text : bytes ≡ flat_map piece_text told ++ pending s
  pub fits : list_all piece_fits told ≡ true
  pub accepted : accepts at_start 0 told ≡ true
  pub counted : end_open 0 told ≡ n
  pub few : n ≤ length bytes
  pub first : (outcome : Outcome) (optimum : Option ℤ) (c : Certificate) (rest : List ℕ) → IsTrue (has_text outcome optimum c) → bytes ++ rest ≡ certificate_text outcome optimum c → (later : List Piece) × (certificate_pieces outcome optimum c ≡ told ++ later)
  pub ended : is_ended s ≡ true → IsText bytes
  pub unended : IsText bytes → is_ended s ≡ true

abbrev pub Tells : Standing → List ℕ → Type 0
Tells (going told n s) bytes = IsGoing bytes told n s
Tells no_text bytes = (place : ℕ) × (place < length bytes) × IsFault place bytes
