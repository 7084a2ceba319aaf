-- The canonical text of a problem is read again as that problem: it is cut as its chunks, the tokens make items that say
-- part by part what the problem is, and such items meet no refusal and make the problem.
use Rattle.std.proofs.Common.{◌≡◌, ℕ, List, None, sym, subst}
use Rattle.qc_model.specs.Content.{Game}
use Rattle.qc_model.specs.Valid.{IsValid}
use Rattle.qc_model.specs.Canonical.{canonical_text}
use Rattle.qc_tokens.specs.declared.token.Token.{Token}
use Rattle.qc_tokens.specs.Tokens.{tokens_of, first_bad_byte, first_bad_number}
use Rattle.text_grammar.specs.Grammar.{IsProblem}
use Rattle.text_grammar.specs.Lexemes.{lexemes_of}
use Rattle.text_resolve.specs.Numbers.{first_far}
use Rattle.qc_syntax.specs.Reads.{Reads}
use Rattle.text_reread.specs.Cut.{IsCutAsChunks}
use Rattle.text_reread.specs.Items.{spelled_tokens}
use Rattle.text_reread.specs.Spelled.{problem_chunks}
use Rattle.text_reread.proofs.Cutting.{chunks_are_cut}
use Rattle.text_reread.proofs.SpelledText.{chunks_spell}
use Rattle.text_reread.proofs.RunsApart.{spelled_right}
use Rattle.text_reread.proofs.SpelledItems.{parts_are_read}
use Rattle.text_reread.proofs.NearNumbers.{numbers_are_near}
use Rattle.text_reread.proofs.ReadGame.{same_game}
use Rattle.text_reread.proofs.Refusals.{no_fault}

-- the canonical text is cut as the chunks of the problem
cut_of : (g : Game) → IsValid g → IsCutAsChunks (problem_chunks g)
cut_of g valid = let right = spelled_right g valid in chunks_are_cut (problem_chunks g) right.chunks right.apart

tokens_are : (g : Game) → IsValid g → tokens_of (canonical_text g) ≡ spelled_tokens g
tokens_are g valid = subst (λ (t : List ℕ). tokens_of t ≡ spelled_tokens g) (chunks_spell g) (cut_of g valid).tokens

pub read_again : (g : Game) → IsValid g → Reads (canonical_text g) g
read_again g valid =
    let text = canonical_text g in
    let cut = cut_of g valid in
    let parts = parts_are_read g valid in
    let same = sym (tokens_are g valid) in
    record {
      items = parts.items;
      written = record {
        clean = record {
          bytes = subst (λ (t : List ℕ). first_bad_byte t ≡ None) (chunks_spell g) cut.no_bad_byte;
          numbers = subst (λ (t : List ℕ). first_bad_number t ≡ None) (chunks_spell g) cut.no_bad_number;
        };
        problem = subst (λ (ts : List Token). IsProblem parts.items (lexemes_of text ts)) same parts.problem;
      };
      unrefused = no_fault g valid text parts.items parts.stand (tokens_of text)
          (subst (λ (ts : List Token). first_far ts ≡ None) same (numbers_are_near g valid));
      game = sym (same_game g valid text parts.items parts.stand);
    }
