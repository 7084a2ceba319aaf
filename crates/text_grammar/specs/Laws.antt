-- The laws of the grammar.
use Rattle.std.specs.Prelude.{◌≡◌, ◌⊎◌, ℕ, List}
use Rattle.qc_tokens.specs.declared.token.Token.{Token}
use Rattle.text_grammar.specs.declared.tree.Item.{Item}
use Rattle.text_grammar.specs.declared.lexeme.Lexeme.{Lexeme}
use Rattle.text_grammar.specs.Grammar.{IsProblem}
use Rattle.text_grammar.specs.Lexemes.{lexemes_of, StopsAt}

-- lexemes are those of one problem at most: no text can be read in two ways
abbrev pub IsOneProblem : Type 0
IsOneProblem = (items others : List Item) (lexemes : List Lexeme) → IsProblem items lexemes → IsProblem others lexemes → items ≡ others

-- the tokens of a problem stop being one nowhere ..
abbrev pub ProblemStopsNowhere : Type 0
ProblemStopsNowhere = (text : List ℕ) (ts : List Token) (at : ℕ) (items : List Item) → IsProblem items (lexemes_of text ts) → StopsAt text ts at → ⊥

-- .. those of every other text do somewhere ..
abbrev pub OthersStop : Type 0
OthersStop = (text : List ℕ) (ts : List Token) → ((items : List Item) × IsProblem items (lexemes_of text ts)) ⊎ ((at : ℕ) × StopsAt text ts at)

-- .. and at one place
abbrev pub StopIsOne : Type 0
StopIsOne = (text : List ℕ) (ts : List Token) (at other : ℕ) → StopsAt text ts at → StopsAt text ts other → at ≡ other
