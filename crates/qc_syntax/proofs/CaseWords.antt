-- Words to write the cases of reading with.
use Rattle.std.proofs.Common.{◌≡◌, refl, ℕ, ℤ, List, None, Some}
use Rattle.qc_tokens.specs.Tokens.{number_of, first_cut, pieces, tokens_from, bad_byte_from, bad_number_from, tokens_of, first_bad_byte, first_bad_number}
use Rattle.text_grammar.specs.declared.tree.Word.{Word}
use Rattle.text_grammar.specs.declared.tree.Number.{Number}
use Rattle.text_grammar.specs.declared.tree.Item.{Item}
use Rattle.text_grammar.specs.Grammar.{IsProblem}
use Rattle.text_grammar.specs.Lexemes.{lexemes_of}
use Rattle.text_resolve.specs.declared.refusal.RefusalKind.{RefusalKind}
use Rattle.text_resolve.specs.Fits.{predicate_of}
use Rattle.text_resolve.specs.Draft.{game_of}
use Rattle.text_resolve.specs.TextRefusals.{first_refusal}
use Rattle.qc_model.specs.Content.{Game}
use Rattle.qc_syntax.specs.Reads.{Reads, MeetsFirst, kind_of}

-- `unfolding reading` lets `refl` compute what a text that is written out says
unfoldable pub reading : Unit {0}
unfolding number_of first_cut pieces tokens_from bad_byte_from bad_number_from predicate_of
reading = tt

abbrev pub word : ℕ → ℕ → Word
word start end = record { start = start; end = end }

abbrev pub figure : ℕ → ℤ → Number
figure at value = record { at = at; value = value }

-- a text with these items meets this fault first
pub faulty :
    (text : List ℕ) (items : List Item) (fault : RefusalKind) (at : ℕ) → first_bad_byte text ≡ None → first_bad_number text ≡ None →
    IsProblem items (lexemes_of text (tokens_of text)) → first_refusal text (tokens_of text) items ≡ Some (record { kind = fault; at = at }) → MeetsFirst text (kind_of fault) at
faulty text items fault at bytes numbers problem first =
    record { items = items; written = record { clean = record { bytes = bytes; numbers = numbers }; problem = problem }; fault = fault; first = first; same = refl }

-- a text with these items is that of this problem
pub read :
    (text : List ℕ) (items : List Item) (g : Game) → first_bad_byte text ≡ None → first_bad_number text ≡ None →
    IsProblem items (lexemes_of text (tokens_of text)) → first_refusal text (tokens_of text) items ≡ None → g ≡ game_of text items → Reads text g
read text items g bytes numbers problem unrefused game =
    record { items = items; written = record { clean = record { bytes = bytes; numbers = numbers }; problem = problem }; unrefused = unrefused; game = game }
