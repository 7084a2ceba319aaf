-- What a checker is after some bytes, and what it says of them.
use Rattle.std.specs.Prelude.{◌≡◌, ℕ, List, ◌++◌, length, Option, Some, None, IsTrue}
use Rattle.qc_model.specs.declared.problem.Kind.{Kind}
use Rattle.qc_model.specs.Content.{Game}
use Rattle.lemma_list.specs.Lemmas.{Entry}
use Rattle.lemma_list.specs.InPlace.{proves}
use Rattle.lemma_text.specs.declared.item.Item.{Item}
use Rattle.lemma_text.specs.Text.{list_text}
use Rattle.lemma_text.specs.Ranges.{has_text}
use Rattle.lemma_text.specs.States.{State}
use Rattle.lemma_text.specs.Reader.{StandsFor}
use Rattle.lemma_text.specs.Places.{BeginsText, IsFault}
use Rattle.lemma_check.specs.declared.machine.LemmaMachine.{LemmaMachine}
use Rattle.lemma_check.specs.Books.{first_book, goes_through}
use Rattle.lemma_check.specs.Machine.{game_of, book_of}
use Rattle.lemma_judge.specs.declared.finding.Checked.{Checked}
use Rattle.lemma_judge.specs.declared.finding.Checked.TheVariants.{Yes, NotProved, NotACertificate}
use Rattle.lemma_judge.specs.declared.progress.Stop.{Stop}
use Rattle.lemma_judge.specs.declared.progress.Stop.TheVariants.{Bad, Spent}
use Rattle.lemma_judge.specs.declared.progress.ListChecker.{ListChecker}
use Rattle.lemma_judge.specs.Stated.{head_told, LosesGame}

-- the bytes, so many, begin a text, of which these items were told, and the machine was given them
pub record IsReading (r : Option State) (m : LemmaMachine) (loser : Option Kind) (count : ℕ) (bytes : List ℕ) : Type 0 where
  pub told : List Item
  pub stands : StandsFor r bytes told
  pub begins : BeginsText bytes
  pub counted : count ≡ length bytes
  pub head_is : loser ≡ head_told None told
  pub book : book_of m ≡ goes_through (game_of m) first_book told

-- these bytes, and all that begin with them, have this first fault; nothing is known where memory was refused
abbrev pub IsStopped : Stop → ℕ → List ℕ → Type 0
IsStopped Bad at bytes = (more : List ℕ) → IsFault at (bytes ++ more)
IsStopped Spent at bytes = ⊥

abbrev pub IsCheckingBy : Option Stop → ListChecker → List ℕ → Type 0
IsCheckingBy None c bytes = IsReading c.reader c.machine c.loser c.read bytes
IsCheckingBy (Some stop) c bytes = IsStopped stop c.read bytes

-- the checker was given these bytes, and had the memory for them
abbrev pub IsChecking : ListChecker → List ℕ → Type 0
IsChecking c bytes = IsCheckingBy c.stop c bytes

-- memory was refused
abbrev pub IsSpent : ListChecker → Type 0
IsSpent c = c.stop ≡ Some Spent

-- the bytes are the text of this list, by which the side of this kind loses the game
pub record IsListText (bytes : List ℕ) (loser : Kind) (entries : List Entry) : Type 0 where
  pub spelled : bytes ≡ list_text loser entries
  pub spellable : IsTrue (has_text entries)

-- a list that proves what it states, which is so
pub record IsProof (g : Game) (bytes : List ℕ) (loser : Kind) : Type 0 where
  pub entries : List Entry
  pub read : IsListText bytes loser entries
  pub proves : IsTrue (proves g loser entries)
  pub means : LosesGame loser g

-- one that doesn't
pub record IsNoProof (g : Game) (bytes : List ℕ) : Type 0 where
  pub loser : Kind
  pub entries : List Entry
  pub read : IsListText bytes loser entries
  pub fails : IsTrue (proves g loser entries) → ⊥

-- what is said of bytes
abbrev pub Comes : Game → List ℕ → Checked → Type 0
Comes g bytes (Yes loser) = IsProof g bytes loser
Comes g bytes NotProved = IsNoProof g bytes
Comes g bytes (NotACertificate at) = IsFault at bytes
