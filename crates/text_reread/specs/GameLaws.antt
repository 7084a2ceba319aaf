-- The laws of items that say, in order, what the parts of a valid problem are.
use Rattle.std.specs.Prelude.{◌≡◌, ◌≢◌, ℕ, List, None}
use Rattle.qc_model.specs.Content.{Game}
use Rattle.qc_model.specs.Valid.{IsValid}
use Rattle.qc_tokens.specs.declared.token.Token.{Token}
use Rattle.text_grammar.specs.declared.tree.Item.{Item}
use Rattle.text_resolve.specs.declared.refusal.RefusalKind.{RefusalKind}
use Rattle.text_resolve.specs.declared.refusal.RefusalKind.TheVariants.{OutOfRange}
use Rattle.text_resolve.specs.Numbers.{first_far}
use Rattle.text_resolve.specs.Draft.{game_of}
use Rattle.text_resolve.specs.TextRefusals.{refusal_at, first_refusal}
use Rattle.text_reread.specs.Parts.{parts_of}
use Rattle.text_reread.specs.Stands.{AllStand}

-- they make that problem
abbrev pub SameGame : Type 0
SameGame = (text : List ℕ) (g : Game) (items : List Item) → IsValid g → AllStand text g (parts_of g) items → game_of text items ≡ g

-- they are refused for nothing, whatever the tokens are; whether a number is out of range is for the tokens to tell
abbrev pub NotRefused : Type 0
NotRefused =
    (text : List ℕ) (g : Game) (items : List Item) (ts : List Token) → IsValid g → AllStand text g (parts_of g) items →
    (kind : RefusalKind) → kind ≢ OutOfRange → refusal_at kind text ts items ≡ None

-- so with tokens that have no number out of range they have no fault
abbrev pub NoRefusal : Type 0
NoRefusal =
    (text : List ℕ) (g : Game) (items : List Item) (ts : List Token) → IsValid g → AllStand text g (parts_of g) items →
    first_far ts ≡ None → first_refusal text ts items ≡ None
