-- That items say of a list what the definitions say of it.
use Rattle.std.specs.Prelude.{◌≡◌, Bool, cond, List, Option, None}
use Rattle.qc_model.specs.declared.problem.Kind.{Kind}
use Rattle.qc_model.specs.Content.{Game}
use Rattle.lemma_list.specs.Lemmas.{Entry, shown, forget}
use Rattle.lemma_list.specs.Reasons.{Known}
use Rattle.lemma_list.specs.InPlace.{entry_in_place, known_after, proves}
use Rattle.lemma_text.specs.declared.item.Item.{Item}
use Rattle.lemma_text.specs.Items.{entry_items, list_items}
use Rattle.lemma_check.specs.Books.{Book, between, wrong, first_book, game_loser, settled, goes_through, says}

abbrev pub loser_after : Entry → Option Kind
loser_after (shown s) = game_loser s.lemma
loser_after (forget n) = None

-- what an entry makes of the lemmas before it
abbrev pub after_entry : Game → Known → Entry → Book
after_entry g known e = cond (entry_in_place g known e) (between (known_after known e) (loser_after e)) wrong

abbrev pub EntriesTold : Type 0
EntriesTold =
    (g : Game) (b : Book) (known : Known) (loser : Option Kind) (e : Entry) → settled g b ≡ between known loser
    → settled g (goes_through g b (entry_items e)) ≡ after_entry g known e

abbrev pub ListsTold : Type 0
ListsTold = (g : Game) (head loser : Kind) (es : List Entry) → says g loser (goes_through g first_book (list_items head es)) ≡ proves g loser es

-- an answer is that of whichever list has these items
abbrev pub AnswersLists : Game → Book → Kind → Bool → Type 0
AnswersLists g b loser answer = (head : Kind) (es : List Entry) → b ≡ goes_through g first_book (list_items head es) → answer ≡ proves g loser es

-- nothing that is out of place is mended later
abbrev pub WrongStays : Type 0
WrongStays = (g : Game) (is : List Item) → goes_through g wrong is ≡ wrong
