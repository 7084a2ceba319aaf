-- Names are words.
use Rattle.std.proofs.Common.{List, [], ◌∷◌, map, not, refl}
use Rattle.std.specs.Bool.{IsTrue}
use Rattle.std.proofs.lemmas.Bool.{and_from, and_parts}
use Rattle.std.specs.List.{list_all, list_any}
use Rattle.std.specs.Str.{bytes_eq}
use Rattle.qc_model.specs.Names.{is_name, is_word, reserved_words}
use Rattle.text_resolve.specs.Names.{Declared}

pub names_are_words : (ds : List Declared) → IsTrue (list_all is_name (map (λ d. d.name) ds)) → IsTrue (list_all (λ d. is_word d.name) ds)
names_are_words [] p = refl
names_are_words (d ∷ ds) p =
    let parts = and_parts (is_name d.name) (list_all is_name (map (λ e. e.name) ds)) p in
    let word = and_parts (is_word d.name) (not (list_any (bytes_eq d.name) reserved_words)) parts.0 in
    and_from (is_word d.name) (list_all (λ e. is_word e.name) ds) word.0 (names_are_words ds parts.1)
