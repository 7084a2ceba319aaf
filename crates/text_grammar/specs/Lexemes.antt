-- What the grammar sees of the tokens.
use Rattle.std.specs.Prelude.{◌==◌, ℕ, true, false, cond, List, [], ◌∷◌, ◌++◌, map, length, codes}
use Rattle.std.specs.Str.{bytes_eq}
use Rattle.qc_model.specs.declared.problem.Sense.TheVariants.{Min, Max}
use Rattle.qc_tokens.specs.declared.token.Token.{Token}
use Rattle.qc_tokens.specs.declared.token.Sort.{Sort}
use Rattle.qc_tokens.specs.declared.token.Sort.TheVariants.{Word as WordSort, Number as NumberSort, Sign as SignSort}
use Rattle.qc_tokens.specs.Tokens.{token_bytes}
use Rattle.text_grammar.specs.declared.tree.Item.{Item}
use Rattle.text_grammar.specs.declared.lexeme.Lexeme.{Lexeme}
use Rattle.text_grammar.specs.declared.lexeme.Lexeme.TheVariants.{Exists, Forall, Goal, Solve, Var, Bits, Aggregate, Sum, Least, Greatest, Else, Optimise, Constraint, Truth, Name, Number, Semicolon, Colon, Comma, ParenOpen, ParenClose, BracketOpen, BracketClose, BraceOpen, BraceClose, Equals, Dots}
use Rattle.text_grammar.specs.Grammar.{IsProblem, Begins}

-- a word of the language, or a name
abbrev pub word_lexeme : List ℕ → ℕ → ℕ → Lexeme
word_lexeme bytes start end =
    cond (bytes_eq bytes (codes "exists")) (Exists start) (cond (bytes_eq bytes (codes "forall")) (Forall start)
    (cond (bytes_eq bytes (codes "goal")) Goal (cond (bytes_eq bytes (codes "solve")) Solve
    (cond (bytes_eq bytes (codes "var")) (Var start) (cond (bytes_eq bytes (codes "bool")) (Bits start)
    (cond (bytes_eq bytes (codes "aggregate")) (Aggregate start) (cond (bytes_eq bytes (codes "sum")) Sum
    (cond (bytes_eq bytes (codes "least")) Least (cond (bytes_eq bytes (codes "greatest")) Greatest
    (cond (bytes_eq bytes (codes "else")) Else (cond (bytes_eq bytes (codes "minimize")) (Optimise Min)
    (cond (bytes_eq bytes (codes "maximize")) (Optimise Max) (cond (bytes_eq bytes (codes "constraint")) (Constraint start)
    (cond (bytes_eq bytes (codes "true")) (Truth true) (cond (bytes_eq bytes (codes "false")) (Truth false)
    (Name (record { start = start; end = end })))))))))))))))))

-- the sign of this byte; the byte of the two dots is that of one
abbrev pub sign_lexeme : ℕ → ℕ → Lexeme
sign_lexeme b at =
    cond (b == 59) Semicolon (cond (b == 58) Colon (cond (b == 44) Comma (cond (b == 40) ParenOpen (cond (b == 41) ParenClose
    (cond (b == 91) (BracketOpen at) (cond (b == 93) BracketClose (cond (b == 123) (BraceOpen at) (cond (b == 125) BraceClose
    (cond (b == 61) Equals Dots)))))))))

abbrev pub sort_lexeme : List ℕ → ℕ → ℕ → Sort → Lexeme
sort_lexeme bytes start end WordSort = word_lexeme bytes start end
sort_lexeme bytes start end (NumberSort z) = Number (record { at = start; value = z })
sort_lexeme bytes start end (SignSort b) = sign_lexeme b start

abbrev pub lexeme_of : List ℕ → Token → Lexeme
lexeme_of text t = sort_lexeme (token_bytes text t) t.start t.end t.sort

abbrev pub lexemes_of : List ℕ → List Token → List Lexeme
lexemes_of text ts = map (lexeme_of text) ts

-- Where tokens stop being a problem: at the first token with which they begin none, or at the end of the text where
-- they begin one and aren't one.
pub data StopsAt (text : List ℕ) : List Token → ℕ → Type 0 where
  at_token :
      (before : List Token) (t : Token) (after : List Token) → Begins (lexemes_of text before) →
      (Begins (lexemes_of text (before ++ t ∷ [])) → ⊥) → StopsAt text (before ++ t ∷ after) t.start
  at_end :
      (ts : List Token) → Begins (lexemes_of text ts) → ((items : List Item) → IsProblem items (lexemes_of text ts) → ⊥) →
      StopsAt text ts (length text)
