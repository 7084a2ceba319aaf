-- What a reader of lists was given, and what it told.
use Rattle.std.specs.Prelude.{ℕ, ◌≤◌, ◌<◌, ◌≡◌, List, [], ◌∷◌, ◌++◌, length, flat_map, Option, Some, None, IsTrue}
use Rattle.qc_model.specs.declared.problem.Kind.{Kind}
use Rattle.lemma_list.specs.Lemmas.{Entry}
use Rattle.lemma_text.specs.declared.item.Item.{Item}
use Rattle.lemma_text.specs.declared.reader.Fed.{Fed}
use Rattle.lemma_text.specs.declared.reader.Fed.TheVariants.{More, Whole, Bad}
use Rattle.lemma_text.specs.declared.reader.End.{End}
use Rattle.lemma_text.specs.declared.reader.End.TheVariants.{Whole as WholeEnd, CutShort, Bad as BadEnd}
use Rattle.lemma_text.specs.Text.{list_text}
use Rattle.lemma_text.specs.Ranges.{has_text}
use Rattle.lemma_text.specs.Items.{item_text, item_fits, list_items}
use Rattle.lemma_text.specs.Accepted.{accepts}
use Rattle.lemma_text.specs.States.{State, at_start, state_at, place_after}
use Rattle.lemma_text.specs.Standing.{Standing, going, no_text, next_standing, standing}
use Rattle.lemma_text.specs.Telling.{Tells}
use Rattle.lemma_text.specs.Places.{BeginsText, IsFault}

-- what was told, with one answer more
abbrev pub tell : List Item → Fed → List Item
tell told More = told
tell told (Whole item) = told ++ item ∷ []
tell told Bad = told

-- the bytes' standing, where a reader kept this and told these items
abbrev pub standing_of : List Item → Option State → Standing
standing_of told None = no_text
standing_of told (Some s) = going told s

-- the reader was given these bytes, and told these items
abbrev pub StandsFor : Option State → List ℕ → List Item → Type 0
StandsFor kept bytes told = (standing bytes ≡ standing_of told kept) × Tells (standing_of told kept) bytes

-- a reader that kept the one keeps the other after a byte, and tells this
abbrev pub GoesTo : Option State → Fed → Type 0
GoesTo new More = (s : State) × (new ≡ Some s)
GoesTo new (Whole item) = new ≡ Some (state_at (place_after item))
GoesTo new Bad = new ≡ None

abbrev pub Goes : Option State → ℕ → Option State → Fed → Type 0
Goes old b new fed = ((told : List Item) → next_standing (standing_of told old) b ≡ standing_of (tell told fed) new) × GoesTo new fed

-- the first fault of the bytes was reached by now, and is at the last byte where the bytes before it begin a text
pub record HasStopped (bytes : List ℕ) (b : ℕ) : Type 0 where
  pub place : ℕ
  pub within : place ≤ length bytes
  pub is : IsFault place (bytes ++ b ∷ [])
  pub here : BeginsText bytes → place ≡ length bytes

-- what an answer says of a byte, after the bytes before it and the items that they told
abbrev pub Says : List ℕ → List Item → ℕ → Fed → Type 0
Says bytes told b More = BeginsText (bytes ++ b ∷ [])
Says bytes told b (Whole item) = BeginsText (bytes ++ b ∷ []) × (bytes ++ b ∷ [] ≡ flat_map item_text (told ++ item ∷ [])) × IsTrue (item_fits item) × IsTrue (accepts at_start (told ++ item ∷ []))
Says bytes told b Bad = HasStopped bytes b

-- the bytes are the text of a list, and its items were told
abbrev pub IsTold : List ℕ → List Item → Type 0
IsTold bytes told = (loser : Kind) × (entries : List Entry) × IsTrue (has_text entries) × (bytes ≡ list_text loser entries) × (told ≡ list_items loser entries)

-- what the bytes are that end here
abbrev pub Ends : List ℕ → List Item → End → Type 0
Ends bytes told WholeEnd = IsTold bytes told
Ends bytes told CutShort = BeginsText bytes × IsFault (length bytes) bytes
Ends bytes told BadEnd = (place : ℕ) × (place < length bytes) × IsFault place bytes
