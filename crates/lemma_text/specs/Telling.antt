-- What reading byte by byte says of the bytes.
use Rattle.std.specs.Prelude.{ℕ, ◌<◌, ◌≡◌, Bool, true, false, List, ◌++◌, length, flat_map, IsTrue}
use Rattle.std.specs.List.{list_all}
use Rattle.qc_model.specs.declared.problem.Kind.{Kind}
use Rattle.lemma_list.specs.Lemmas.{Entry}
use Rattle.lemma_text.specs.declared.item.Item.{Item}
use Rattle.lemma_text.specs.Text.{list_text}
use Rattle.lemma_text.specs.Ranges.{has_text}
use Rattle.lemma_text.specs.Items.{item_text, item_fits, list_items}
use Rattle.lemma_text.specs.States.{State, word, outcome, due, begun, lettered, reached, number, at_start}
use Rattle.lemma_text.specs.Accepted.{accepts}
use Rattle.lemma_text.specs.Standing.{Standing, going, no_text}
use Rattle.lemma_text.specs.Unfinished.{pending}
use Rattle.lemma_text.specs.Places.{IsText, BeginsText, IsFault}

-- a line begins
abbrev pub is_between : State → Bool
is_between (word w read) = false
is_between outcome = false
is_between (due d) = true
is_between (begun k) = false
is_between (lettered f) = false
is_between reached = false
is_between (number f vs gs n) = false

-- The bytes begin a text: the whole pieces may stand there one after the other, they and what is read of another are
-- spelled so, and each list whose text begins with the bytes begins with these pieces. The bytes are a text exactly where
-- a line begins
pub record IsGoing (bytes : List ℕ) (told : List Item) (s : State) : Type 0 where
  pub begins : BeginsText bytes
  pub text : bytes ≡ flat_map item_text told ++ pending s
  pub fits : list_all item_fits told ≡ true
  pub accepted : accepts at_start told ≡ true
  pub first : (loser : Kind) (entries : List Entry) (rest : List ℕ) → IsTrue (has_text entries) → bytes ++ rest ≡ list_text loser entries → (later : List Item) × (list_items loser entries ≡ told ++ later)
  pub ended : is_between s ≡ true → IsText bytes
  pub unended : IsText bytes → is_between s ≡ true

abbrev pub Tells : Standing → List ℕ → Type 0
Tells (going told s) bytes = IsGoing bytes told s
Tells no_text bytes = (place : ℕ) × (place < length bytes) × IsFault place bytes
