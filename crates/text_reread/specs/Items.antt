-- The canonical text of a problem as chunks, and the items that its tokens make.
use Rattle.std.specs.Prelude.{◌≡◌, IsTrue, List, None}
use Rattle.std.specs.List.{list_all}
use Rattle.qc_model.specs.Content.{Game}
use Rattle.qc_model.specs.Valid.{IsValid}
use Rattle.qc_model.specs.Canonical.{canonical_text}
use Rattle.qc_tokens.specs.declared.token.Token.{Token}
use Rattle.text_grammar.specs.declared.tree.Item.{Item}
use Rattle.text_grammar.specs.Grammar.{IsProblem}
use Rattle.text_grammar.specs.Lexemes.{lexemes_of}
use Rattle.text_resolve.specs.Numbers.{first_far}
use Rattle.text_reread.specs.Chunks.{chunks_text, tokens_from, is_chunk, are_apart}
use Rattle.text_reread.specs.Parts.{parts_of}
use Rattle.text_reread.specs.Stands.{AllStand}
use Rattle.text_reread.specs.Spelled.{problem_chunks}

-- the tokens of a problem's canonical text
abbrev pub spelled_tokens : Game → List Token
spelled_tokens g = tokens_from 0 (problem_chunks g)

-- the text of a problem's chunks is its canonical text
abbrev pub ChunksSpell : Type 0
ChunksSpell = (g : Game) → chunks_text (problem_chunks g) ≡ canonical_text g

-- items that the tokens of a problem's text make, and that say part by part what the problem is
pub record ReadsAsParts (g : Game) : Type 0 where
  pub items : List Item
  pub problem : IsProblem items (lexemes_of (canonical_text g) (spelled_tokens g))
  pub stand : AllStand (canonical_text g) g (parts_of g) items

-- each problem's tokens make such items
abbrev pub PartsAreRead : Type 0
PartsAreRead = (g : Game) → IsValid g → ReadsAsParts g

-- words are words, numbers are within their bounds, and no two of these stand side by side
pub record IsSpelledRight (g : Game) : Type 0 where
  pub chunks : IsTrue (list_all is_chunk (problem_chunks g))
  pub apart : IsTrue (are_apart (problem_chunks g))

abbrev pub ProblemsAreSpelledRight : Type 0
ProblemsAreSpelledRight = (g : Game) → IsValid g → IsSpelledRight g

-- no number of a problem's text is too far from 0
abbrev pub NumbersAreNear : Type 0
NumbersAreNear = (g : Game) → IsValid g → first_far (spelled_tokens g) ≡ None
