-- The grammar of a formula's text, over its tokens.
use Rattle.std.specs.Prelude.{◌≡◌, ◌⊎◌, ℕ, true, false, List, [], ◌∷◌, ◌++◌, map, flat_map, Option, Some, None, Bool}
use Rattle.qdimacs.specs.declared.token.Token.{Token}
use Rattle.qdimacs.specs.declared.token.Sign.{Sign}
use Rattle.qdimacs.specs.declared.token.Sign.TheVariants.{Format, Cnf, Quantifier, Zero, Number, Negative}
use Rattle.qdimacs.specs.declared.tree.NumberText.{NumberText}
use Rattle.qdimacs.specs.declared.tree.LiteralText.{LiteralText}
use Rattle.qdimacs.specs.declared.tree.SetText.{SetText}
use Rattle.qdimacs.specs.declared.tree.ClauseText.{ClauseText}

-- the two counts, the sets and the clauses of a text
pub record File : Type 0 where
  pub variables : NumberText
  pub clauses : NumberText
  pub sets : List SetText
  pub body : List ClauseText

abbrev pub token : ℕ → Sign → Token
token at s = record { at = at; sign = s }

-- a count is a number or 0
abbrev pub count_value : ℕ → Sign → Option NumberText
count_value at Zero = Some (record { at = at; value = 0 })
count_value at (Number n) = Some (record { at = at; value = n })
count_value at _ = None

abbrev pub count_of : Token → Option NumberText
count_of t = count_value t.at t.sign

abbrev pub number_token : NumberText → Token
number_token n = token n.at (Number n.value)

abbrev pub literal_sign : Bool → ℕ → Sign
literal_sign true n = Number n
literal_sign false n = Negative n

abbrev pub literal_token : LiteralText → Token
literal_token l = token l.at (literal_sign l.positive l.variable)

-- a quantifier, variables, and 0
abbrev pub set_tokens : SetText → List Token
set_tokens s = token s.at (Quantifier s.kind) ∷ (map number_token s.variables ++ token s.end Zero ∷ [])

-- literals, and 0
abbrev pub clause_tokens : ClauseText → List Token
clause_tokens c = map literal_token c.literals ++ token c.end Zero ∷ []

-- p cnf and the two counts, then the sets, then the clauses
pub record IsFile (f : File) (ts : List Token) : Type 0 where
  pub p : ℕ
  pub cnf : ℕ
  pub variables : Token
  pub clauses : Token
  pub variables_count : count_of variables ≡ Some f.variables
  pub clauses_count : count_of clauses ≡ Some f.clauses
  pub are : ts ≡ token p Format ∷ token cnf Cnf ∷ variables ∷ clauses ∷ (flat_map set_tokens f.sets ++ flat_map clause_tokens f.body)

-- some file begins with these tokens
abbrev pub Begins : List Token → Type 0
Begins ts = (f : File) × (more : List Token) × IsFile f (ts ++ more)

-- the first token with which the tokens begin no file, and those before and after it
pub record StopsAtToken (ts : List Token) (at : ℕ) : Type 0 where
  pub before : List Token
  pub stop : Token
  pub after : List Token
  pub are : ts ≡ before ++ stop ∷ after
  pub place : at ≡ stop.at
  pub begin : Begins before
  pub no : ¬ Begins (before ++ stop ∷ [])

-- they begin a file and are none; then the stop is the end of the text, which is so long
pub record StopsAtEnd (size : ℕ) (ts : List Token) (at : ℕ) : Type 0 where
  pub place : at ≡ size
  pub begin : Begins ts
  pub no : (f : File) → ¬ IsFile f ts

abbrev pub StopsAt : ℕ → List Token → ℕ → Type 0
StopsAt size ts at = StopsAtToken ts at ⊎ StopsAtEnd size ts at
