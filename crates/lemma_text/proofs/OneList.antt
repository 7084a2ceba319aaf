-- A text is one list's.
use Rattle.std.proofs.Common.{◌≡◌, sym, ap, ◌∙◌, ℕ, List, [], ◌++◌}
use Rattle.std.specs.Prelude.{flat_map, IsTrue}
use Rattle.std.proofs.lemmas.List.{append-nil}
use Rattle.qc_model.specs.declared.problem.Kind.{Kind}
use Rattle.lemma_list.specs.Lemmas.{Entry}
use Rattle.lemma_text.specs.declared.item.Item.{Item}
use Rattle.lemma_text.specs.declared.parts.Due.{Due}
use Rattle.lemma_text.specs.Text.{list_text}
use Rattle.lemma_text.specs.Ranges.{has_text}
use Rattle.lemma_text.specs.Items.{item_text, list_items}
use Rattle.lemma_text.specs.States.{due, Place, at_start, state_at}
use Rattle.lemma_text.specs.Standing.{Standing, going, no_text, standing}
use Rattle.lemma_text.proofs.Spelled.{list_spelled, list_fits}
use Rattle.lemma_text.proofs.Lists.{all_read, list_whole, one_list}

-- all of a text is read
pub text_stands : (loser : Kind) (es : List Entry) → IsTrue (has_text es) → (d : Due) × (standing (list_text loser es) ≡ going (list_items loser es) (due d))
text_stands loser es h =
    let is = list_items loser es in
    let w = list_whole loser es in
    let read = all_read is at_start [] [] w.0 (list_fits loser es ∙ h) in
    let whole : standing (list_text loser es) ≡ standing (flat_map item_text is ++ []) = ap standing (sym (list_spelled loser es) ∙ sym (append-nil (flat_map item_text is))) in
    (w.1, whole ∙ read ∙ ap (λ (p : Place). going is (state_at p)) w.2)

abbrev told_of : Standing → List Item
told_of (going told s) = told
told_of no_text = []

pub one_text : (k l : Kind) (es fs : List Entry) → IsTrue (has_text es) → IsTrue (has_text fs) → list_text k es ≡ list_text l fs → (k ≡ l) × (es ≡ fs)
one_text k l es fs h g e = one_list k l es fs (sym (ap told_of (text_stands k es h).1) ∙ ap (λ (u : List ℕ). told_of (standing u)) e ∙ ap told_of (text_stands l fs g).1)
