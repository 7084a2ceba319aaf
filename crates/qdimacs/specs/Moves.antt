-- What the next token makes of what was read.
use Rattle.std.specs.Prelude.{◌≡◌, ℕ, Bool, true, false, List, [], ◌∷◌, ◌++◌, Option, Some, None, Result, Ok, Err}
use Rattle.std.specs.declared.alloc.AllocError.{AllocError}
use Rattle.qc_model.specs.declared.problem.Kind.TheVariants.{Exists}
use Rattle.qdimacs.specs.declared.token.Token.{Token}
use Rattle.qdimacs.specs.declared.token.Sign.{Sign}
use Rattle.qdimacs.specs.declared.token.Sign.TheVariants.{Format, Cnf, Quantifier, Zero, Number, Negative}
use Rattle.qdimacs.specs.declared.tree.NumberText.{NumberText}
use Rattle.qdimacs.specs.declared.tree.LiteralText.{LiteralText}
use Rattle.qdimacs.specs.declared.tree.SetText.{SetText}
use Rattle.qdimacs.specs.declared.tree.ClauseText.{ClauseText}
use Rattle.qdimacs.specs.declared.reader.Part.{Part}
use Rattle.qdimacs.specs.declared.reader.Part.TheVariants.{Format as AtFormat, Cnf as AtCnf, Variables as AtVariables, Clauses as AtClauses, Sets as AtSets, Set as InSet, Body as InBody}
use Rattle.qdimacs.specs.declared.reader.Advance.{Advance}
use Rattle.qdimacs.specs.declared.reader.Advance.TheVariants.{Taken, Refused}
use Rattle.qdimacs.specs.Grammar.{File, count_value}

-- what was read: the counts, the sets and clauses, and the parts of those that haven't ended
pub record Reading : Type 0 where
  pub part : Part
  pub variables : NumberText
  pub clauses : NumberText
  pub sets : List SetText
  pub opened : SetText
  pub body : List ClauseText
  pub literals : List LiteralText

abbrev pub no_number : NumberText
no_number = record { at = 0; value = 0 }

abbrev pub no_set : SetText
no_set = record { at = 0; kind = Exists; variables = []; end = 0 }

abbrev pub start : Reading
start = record { part = AtFormat; variables = no_number; clauses = no_number; sets = []; opened = no_set; body = []; literals = [] }

abbrev pub with_variables : Reading → Option NumberText → Option Reading
with_variables r None = None
with_variables r (Some n) = Some (record r { part = AtClauses; variables = n })

abbrev pub with_clauses : Reading → Option NumberText → Option Reading
with_clauses r None = None
with_clauses r (Some n) = Some (record r { part = AtSets; clauses = n })

abbrev pub with_literal : Reading → LiteralText → Reading
with_literal r l = record r { part = InBody; literals = r.literals ++ l ∷ [] }

abbrev pub body_move : Sign → ℕ → Reading → Option Reading
body_move (Number n) at r = Some (with_literal r (record { at = at; positive = true; variable = n }))
body_move (Negative n) at r = Some (with_literal r (record { at = at; positive = false; variable = n }))
body_move Zero at r = Some (record r { part = InBody; body = r.body ++ record { literals = r.literals; end = at } ∷ []; literals = [] })
body_move _ at r = None

abbrev pub set_move : Sign → ℕ → Reading → Option Reading
set_move (Number n) at r = Some (record r { opened = record r.opened { variables = r.opened.variables ++ record { at = at; value = n } ∷ [] } })
set_move Zero at r = Some (record r { part = AtSets; sets = r.sets ++ record r.opened { end = at } ∷ []; opened = no_set })
set_move _ at r = None

abbrev pub sets_move : Sign → ℕ → Reading → Option Reading
sets_move (Quantifier k) at r = Some (record r { part = InSet; opened = record { at = at; kind = k; variables = []; end = 0 } })
sets_move s at r = body_move s at r

-- a word of the head, and what comes after it
abbrev pub word_move : Bool → Part → Reading → Option Reading
word_move true next r = Some (record r { part = next })
word_move false next r = None

abbrev pub is_format : Sign → Bool
is_format Format = true
is_format _ = false

abbrev pub is_cnf : Sign → Bool
is_cnf Cnf = true
is_cnf _ = false

abbrev pub move : Part → Sign → ℕ → Reading → Option Reading
move AtFormat s at r = word_move (is_format s) AtCnf r
move AtCnf s at r = word_move (is_cnf s) AtVariables r
move AtVariables s at r = with_variables r (count_value at s)
move AtClauses s at r = with_clauses r (count_value at s)
move AtSets s at r = sets_move s at r
move InSet s at r = set_move s at r
move InBody s at r = body_move s at r

-- what was read, with one token more
unfoldable pub after_token : Reading → Token → Option Reading
after_token r t = move r.part t.sign t.at r

abbrev pub bind : Option Reading → (Reading → Option Reading) → Option Reading
bind None f = None
bind (Some r) f = f r

abbrev pub after_all : Reading → List Token → Option Reading
after_all r [] = Some r
after_all r (t ∷ ts) = bind (after_token r t) (λ q. after_all q ts)

abbrev pub is_nil : List LiteralText → Bool
is_nil [] = true
is_nil (l ∷ ls) = false

-- no set or clause is open
abbrev pub ends_at : Part → List LiteralText → Bool
ends_at AtSets ls = true
ends_at InBody ls = is_nil ls
ends_at _ ls = false

abbrev pub is_whole : Reading → Bool
is_whole r = ends_at r.part r.literals

abbrev pub file_of : Reading → File
file_of r = record { variables = r.variables; clauses = r.clauses; sets = r.sets; body = r.body }

-- the token is taken, and this was read then; or it can't stand there
abbrev pub Answers : Option Reading → Result Advance AllocError → Reading → Type 0
Answers o (Ok Taken) new = o ≡ Some new
Answers o (Ok Refused) new = o ≡ None
Answers o (Err e) new = Unit {0}
