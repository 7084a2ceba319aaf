-- The piece that words ask for, its text, and what they may ask for that isn't there.
use Rattle.std.specs.Prelude.{◌≡◌, ℕ, suc, ℤ, List, [], ◌∷◌, ◌++◌, flat_map, codes, Option, Some, None, if◌then◌else◌, is_some, IsTrue, IsFalse}
use Rattle.std.specs.Fmt.{signed_decimal}
use Rattle.std.specs.Str.{bytes_eq}
use Rattle.qc_model.specs.declared.problem.Variable.{Variable}
use Rattle.qc_model.specs.Content.{Game}
use Rattle.qc_model.specs.Domains.{has_empty}
use Rattle.proof_tree.specs.declared.line.Line.{Line}
use Rattle.proof_tree.specs.declared.tree.Outcome.{Outcome}
use Rattle.proof_tree.specs.Proves.{optimises_first}
use Rattle.strategy_arena.specs.Certificate.{text_of_lines}
use Rattle.game_search.specs.declared.pieces.Keep.{Keep}
use Rattle.game_search.specs.Pieces.{PieceLines, kept_box}
use Rattle.qecode_commands.specs.declared.status.Status.{Status}
use Rattle.qecode_commands.specs.Certifies.{status_of}
use Rattle.part_commands.specs.Words.{Kept, Asked}

-- the place of the variable of this name, from the place of the first of the list on
abbrev pub place_from : ℕ → List Variable → List ℕ → Option ℕ
place_from k [] name = None
place_from k (x ∷ xs) name = if bytes_eq x.name name then Some k else place_from (suc k) xs name

abbrev pub place_named : Game → List ℕ → Option ℕ
place_named g name = place_from 0 g.variables name

-- the variable at that place keeps these values
abbrev pub keep_at : Option ℕ → Kept → Option Keep
keep_at None kept = None
keep_at (Some k) kept = Some (record { x = record { 0 = k }; lo = kept.lo; hi = kept.hi })

abbrev pub keep_put : Option Keep → Option (List Keep) → Option (List Keep)
keep_put None later = None
keep_put (Some keep) None = None
keep_put (Some keep) (Some keeps) = Some (keep ∷ keeps)

-- what the variables of these names keep; none where one of them isn't there
abbrev pub keeps_of : Game → List Kept → Option (List Keep)
keeps_of g [] = Some []
keeps_of g (kept ∷ keeps) = keep_put (keep_at (place_named g kept.name) kept) (keeps_of g keeps)

-- the name for which there is no variable, or else the first of later ones
abbrev pub name_first : Option ℕ → List ℕ → Option (List ℕ) → Option (List ℕ)
name_first None name later = Some name
name_first (Some k) name later = later

-- the first name for which there is no variable
abbrev pub first_unknown : Game → List Kept → Option (List ℕ)
first_unknown g [] = None
first_unknown g (kept ∷ keeps) = name_first (place_named g kept.name) kept.name (first_unknown g keeps)

-- ---- The text of a piece.
abbrev pub end_text : ℤ → List ℕ
end_text n = codes " " ++ signed_decimal n

abbrev pub keep_line : Kept → List ℕ
keep_line kept = codes "keep " ++ (kept.name ++ (end_text kept.lo ++ (end_text kept.hi ++ codes "\n")))

abbrev pub reached_line : Option ℤ → List ℕ
reached_line None = []
reached_line (Some value) = codes "reached " ++ (signed_decimal value ++ codes "\n")

-- what it is a piece of
abbrev pub piece_head : List Kept → Option ℤ → List ℕ
piece_head keeps reached = codes "qpiece 1\n" ++ (flat_map keep_line keeps ++ reached_line reached)

abbrev pub piece_text : List Kept → Option ℤ → Outcome → Option ℤ → List Line → List ℕ
piece_text keeps reached outcome optimum lines = piece_head keeps reached ++ text_of_lines outcome optimum lines

-- The text is that of a piece: of lines of a tree that stands at the root of the whole game, where the variables keep these
-- values alone, and that comes to what the text states, beside the value that was reached.
pub record IsPiece (asked : Asked) (g : Game) (status : Status) (text : List ℕ) : Type 0 where
  pub keeps : List Keep
  pub outcome : Outcome
  pub optimum : Option ℤ
  pub lines : List Line
  pub named : keeps_of g asked.keeps ≡ Some keeps
  pub piece : PieceLines g (kept_box g keeps) asked.reached asked.turns outcome optimum lines
  pub written : text ≡ piece_text asked.keeps asked.reached outcome optimum lines
  pub ends : status ≡ status_of outcome

-- ---- What isn't there.
abbrev pub unknown_line : List ℕ → List ℕ
unknown_line name = codes "no variable: " ++ name ++ codes "\n"

-- a variable that is named isn't there
pub record HasNoVariable (asked : Asked) (g : Game) (text : List ℕ) : Type 0 where
  pub name : List ℕ
  pub first : first_unknown g asked.keeps ≡ Some name
  pub line : text ≡ unknown_line name

-- a value was reached of a first scope that has no wish
pub record HasNoCondition (asked : Asked) (g : Game) (text : List ℕ) : Type 0 where
  pub named : first_unknown g asked.keeps ≡ None
  pub reached : IsTrue (is_some asked.reached)
  pub none : IsFalse (optimises_first g.scopes)
  pub line : text ≡ codes "no condition\n"

-- a variable keeps no value
pub record HasNoValue (asked : Asked) (g : Game) (text : List ℕ) : Type 0 where
  pub keeps : List Keep
  pub named : keeps_of g asked.keeps ≡ Some keeps
  pub empty : IsTrue (has_empty (kept_box g keeps))
  pub line : text ≡ codes "no value left\n"
