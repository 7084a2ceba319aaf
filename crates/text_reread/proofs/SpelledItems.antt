-- The tokens of a valid problem's text make items that say part by part what the problem is.
use Rattle.std.proofs.Common.{refl, sym, ◌∙◌, ◌∷◌}
use Rattle.std.specs.Prelude.{codes, flat_map}
use Rattle.qc_model.specs.Canonical.{canonical_text}
use Rattle.text_grammar.specs.Grammar.{item_lexemes}
use Rattle.text_reread.specs.Chunks.{word}
use Rattle.text_reread.specs.Parts.{parts_of}
use Rattle.text_reread.specs.Spelled.{line_end, part_chunks, problem_chunks}
use Rattle.text_reread.specs.Items.{PartsAreRead}
use Rattle.text_reread.proofs.SpelledText.{chunks_spell}
use Rattle.text_reread.proofs.Places.{all_lie, lie_first, lexemes_by_chunks, then_read}
use Rattle.text_reread.proofs.PartItems.{parts_read}
use Rattle.text_reread.proofs.ValidParts.{parts_fit}
use Rattle.text_reread.proofs.Arranged.{are_all_arranged}

-- the items are those that the parts are read as
pub parts_are_read : PartsAreRead
parts_are_read g v =
    let text = canonical_text g in
    let cs = flat_map (part_chunks g) (parts_of g) in
    let end = word (codes "solve") ∷ line_end in
    let lie = all_lie text (problem_chunks g) (sym (chunks_spell g)) in
    let r = parts_read text g 0 (parts_of g) (parts_fit g v) (lie_first text 0 cs end lie) in
    record {
      items = r.got;
      problem = record {
        arranged = are_all_arranged g v text r.got r.means _ refl;
        written = lexemes_by_chunks text 0 (problem_chunks g) lie ∙ then_read 0 cs end (flat_map item_lexemes r.got) r.written;
      };
      stand = r.means;
    }
