-- What a text that meets no refusal makes.
use Rattle.std.specs.Prelude.{◌≡◌, ℕ, List, map, IsTrue, All, None}
use Rattle.std.specs.List.{list_all}
use Rattle.qc_model.specs.Names.{is_name}
use Rattle.qc_model.specs.Valid.{IsValid}
use Rattle.qc_tokens.specs.declared.token.Token.{Token}
use Rattle.qc_tokens.specs.Tokens.{IsTokenOf}
use Rattle.text_grammar.specs.declared.tree.Item.{Item}
use Rattle.text_grammar.specs.Grammar.{IsProblem}
use Rattle.text_grammar.specs.Lexemes.{lexemes_of}
use Rattle.text_resolve.specs.Names.{declared}
use Rattle.text_resolve.specs.Draft.{game_of}
use Rattle.text_resolve.specs.TextRefusals.{first_refusal}

-- the items are a problem that is written in these tokens of the text
pub record IsWritten (text : List ℕ) (ts : List Token) (items : List Item) : Type 0 where
  pub problem : IsProblem items (lexemes_of text ts)
  pub tokens : All (λ t. IsTokenOf text t) ts

-- each name that is declared is a name
abbrev pub NamesAreNames : Type 0
NamesAreNames = (text : List ℕ) (ts : List Token) (items : List Item) → IsWritten text ts items →
    IsTrue (list_all is_name (map (λ d. d.name) (declared text items)))

-- items that meet no refusal make a valid problem
abbrev pub UnrefusedIsValid : Type 0
UnrefusedIsValid = (text : List ℕ) (ts : List Token) (items : List Item) → IsWritten text ts items →
    first_refusal text ts items ≡ None → IsValid (game_of text items)
