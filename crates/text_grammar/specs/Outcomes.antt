-- What the calls answer.
use Rattle.std.specs.Prelude.{◌≡◌, ℕ, List, None, Some, Result, Ok, Err}
use Rattle.std.specs.declared.alloc.AllocError.{AllocError}
use Rattle.qc_tokens.specs.declared.token.Token.{Token}
use Rattle.text_grammar.specs.declared.lexeme.Lexeme.{Lexeme}
use Rattle.text_grammar.specs.declared.fault.GrammarFault.{GrammarFault}
use Rattle.text_grammar.specs.declared.fault.GrammarFault.TheVariants.{Syntax, Memory}
use Rattle.text_grammar.specs.declared.reader.Reception.{Reception}
use Rattle.text_grammar.specs.declared.reader.Reception.TheVariants.{Taken, Refused}
use Rattle.text_grammar.specs.Lexemes.{StopsAt}
use Rattle.text_grammar.specs.Moves.{Reading, after_lexeme}

-- the reader has taken the lexeme, or the lexeme can't stand there
abbrev pub Takes : Reading → Lexeme → Result Reception AllocError → Reading → Type 0
Takes old lexeme (Ok Taken) new = after_lexeme old lexeme ≡ Some new
Takes old lexeme (Ok Refused) new = after_lexeme old lexeme ≡ None
Takes old lexeme (Err e) new = Unit {0}

-- the tokens of a text are those of no problem, and stop being one at the fault's place
abbrev pub Explains : List ℕ → List Token → GrammarFault → Type 0
Explains text ts (Syntax at) = StopsAt text ts at
Explains text ts (Memory e) = Unit {0}
