-- Worked cases of reading: the first three refusals, and two texts of problems.
use Rattle.std.proofs.Common.{◌≡◌, refl, ℕ, List, [], ◌∷◌, ◌++◌, None, codes, flat_map, pos}
use Rattle.qc_model.specs.declared.problem.Kind.TheVariants.{Exists}
use Rattle.qc_model.specs.declared.problem.Domain.TheVariants.{Range}
use Rattle.qc_model.specs.declared.problem.Arg.TheVariants.{Var, Num}
use Rattle.qc_model.specs.declared.problem.Argument.TheVariants.{One}
use Rattle.qc_model.specs.declared.problem.Pred.TheVariants.{IntLe}
use Rattle.qc_model.specs.Content.{Game}
use Rattle.qc_tokens.specs.Tokens.{tokens_of}
use Rattle.text_grammar.specs.declared.lexeme.Lexeme.{Lexeme}
use Rattle.text_grammar.specs.declared.lexeme.Lexeme.TheVariants.{Goal, Solve, Semicolon}
use Rattle.text_grammar.specs.declared.tree.One.TheVariants.{Name as OneName, Number as OneNumber}
use Rattle.text_grammar.specs.declared.tree.Members.TheVariants.{Braces}
use Rattle.text_grammar.specs.declared.tree.DomainText.TheVariants.{Members as MembersDomain}
use Rattle.text_grammar.specs.declared.tree.ArgumentText.TheVariants.{One as OneArgument}
use Rattle.text_grammar.specs.declared.tree.Item.{Item}
use Rattle.text_grammar.specs.declared.tree.Item.TheVariants.{Exists as ExistsItem, Goal as GoalItem, Variable, Constraint}
use Rattle.text_grammar.specs.Grammar.{item_lexemes, IsProblem, Begins}
use Rattle.text_grammar.specs.Lexemes.{lexemes_of, at_end}
use Rattle.qc_syntax.specs.declared.fault.Refused13.TheVariants.{BadByte, BadNumber, Syntax}
use Rattle.qc_syntax.specs.Reads.{Reads, Refuses}
use Rattle.qc_syntax.proofs.CaseWords.{reading, word, figure, read}

-- a byte at which nothing begins is refused at its place, before it is seen that the text ends too early
strange_byte : Refuses (codes "goal; #") BadByte 6
unfolding reading
strange_byte = refl

-- letters right after a digit belong to the number, so a hexadecimal one is a bad number, and is refused where it begins
hexadecimal : Refuses (codes "goal; constraint int_le(0x1F,1); solve;") BadNumber 24
unfolding reading
hexadecimal = (refl, refl)

abbrev unended : List ℕ
unended = codes "goal; solve"

-- one more semicolon would make it a problem ..
unended_begins : Begins (lexemes_of unended (tokens_of unended))
unfolding reading
unended_begins = record { more = Semicolon ∷ []; items = GoalItem ∷ []; whole = record { arranged = refl; written = refl } }

-- .. but as it stands it is none, for a problem ends with a semicolon
semicolon_last : (ls : List Lexeme) → Goal ∷ Semicolon ∷ Solve ∷ [] ≡ ls ++ Solve ∷ Semicolon ∷ [] → ⊥
semicolon_last [] e = cc
semicolon_last (a ∷ []) e = cc
semicolon_last (a ∷ b ∷ []) e = cc
semicolon_last (a ∷ b ∷ c ∷ []) e = cc
semicolon_last (a ∷ b ∷ c ∷ d ∷ ls) e = cc

unended_is_none : (items : List Item) → IsProblem items (lexemes_of unended (tokens_of unended)) → ⊥
unfolding reading
unended_is_none items p = semicolon_last (flat_map item_lexemes items) p.written

-- so a text that ends too early is refused at its end
ends_early : Refuses (codes "goal; solve") Syntax 11
unfolding reading
ends_early = (record { bytes = refl; numbers = refl }, at_end (tokens_of unended) unended_begins unended_is_none)

abbrev bare : Game
bare = record { scopes = []; variables = []; aggregates = []; constraints = [] }

-- a problem needs no scope, variable or constraint
read_bare : Reads (codes "goal; solve;") bare
unfolding reading
read_bare = read (codes "goal; solve;") (GoalItem ∷ []) bare refl refl (record { arranged = refl; written = refl }) refl refl

abbrev full : List ℕ
full = codes "exists;constraint int_le(x,3);var {2,0,1,2}: x; % c\ngoal;solve;"

abbrev full_items : List Item
full_items =
    ExistsItem 0 None ∷
    Constraint 7 (word 18 24) (OneArgument (OneName (word 25 26)) ∷ OneArgument (OneNumber (figure 27 (pos 3))) ∷ []) ∷
    Variable 30 (MembersDomain (Braces 34 (figure 35 (pos 2) ∷ figure 37 (pos 0) ∷ figure 39 (pos 1) ∷ figure 41 (pos 2) ∷ []))) (word 45 46) ∷
    GoalItem ∷
    []

abbrev full_game : Game
full_game = record {
  scopes = record { kind = Exists; condition = None } ∷ [];
  variables = record { name = codes "x"; scope = record { 0 = 0 }; domain = Range (pos 0) (pos 2) } ∷ [];
  aggregates = [];
  constraints = record { owner = record { 0 = 0 }; pred = IntLe; args = One (Var (record { 0 = 0 })) ∷ One (Num (pos 3)) ∷ [] } ∷ [];
}

-- a name may be used before it is declared, the numbers of a domain may stand in any order and more than once and make a range
-- where they have no gap, and a comment ends with its line
read_full : Reads full full_game
unfolding reading
read_full = read full full_items full_game refl refl (record { arranged = refl; written = refl }) refl refl
