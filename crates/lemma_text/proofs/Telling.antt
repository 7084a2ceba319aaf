-- Reading byte by byte says the truth of the bytes.
use Rattle.std.proofs.Common.{◌≡◌, refl, sym, ap, ◌∙◌, subst, ℕ, suc, ◌+◌, List, [], ◌∷◌, ◌++◌, length, true, arith, length-append, append_assoc}
use Rattle.std.specs.Prelude.{IsTrue}
use Rattle.std.proofs.lemmas.List.{append-nil}
use Rattle.qc_model.specs.declared.problem.Kind.{Kind}
use Rattle.lemma_list.specs.Lemmas.{Entry}
use Rattle.lemma_text.specs.declared.item.Item.{Item}
use Rattle.lemma_text.specs.declared.parts.Due.{Due}
use Rattle.lemma_text.specs.Text.{list_text}
use Rattle.lemma_text.specs.Ranges.{has_text}
use Rattle.lemma_text.specs.Items.{list_items}
use Rattle.lemma_text.specs.States.{State, word, outcome, due, begun, lettered, reached, number, Next, more, whole, wrong, next, at_start, state_at, place_after}
use Rattle.lemma_text.specs.Standing.{Standing, going, no_text, moved, standing_from, standing}
use Rattle.lemma_text.specs.Telling.{is_between, IsGoing, Tells}
use Rattle.lemma_text.proofs.OneList.{text_stands}
use Rattle.lemma_text.proofs.Faults.{append_standing, Holds, holds_first, HoldsNext, holds_next, whole_text, holds_begins, text_between, stuck, stopped}

between_is : (s : State) → is_between s ≡ true → (d : Due) × (s ≡ due d)
between_is (word w read) h = absurd (cc)
between_is outcome h = absurd (cc)
between_is (due d) h = (d, refl)
between_is (begun k) h = absurd (cc)
between_is (lettered f) h = absurd (cc)
between_is reached h = absurd (cc)
between_is (number f vs gs n) h = absurd (cc)

-- pieces that were told stay
told_stay : (bs : List ℕ) (told is : List Item) (s t : State) → standing_from (going told s) bs ≡ going is t → (later : List Item) × (is ≡ told ++ later)
told_stay [] told is s t h = let same : told ≡ is = cc in ([], sym same ∙ sym (append-nil told))
told_stay (b ∷ bs) told is s t h = by (next s b) h (λ (ks : List Item) (u : State) g. told_stay bs ks is u t g)
  where
    by : (n : Next) → standing_from (moved told n) bs ≡ going is t → ((ks : List Item) (u : State) → standing_from (going ks u) bs ≡ going is t → (later : List Item) × (is ≡ ks ++ later)) → (later : List Item) × (is ≡ told ++ later)
    by (more u) h go = go told u h
    by (whole i) h go = let r = go (told ++ i ∷ []) (state_at (place_after i)) h in (i ∷ r.0, r.1 ∙ append_assoc told (i ∷ []) r.0)
    by wrong h go = let clash : no_text ≡ going is t = sym (stuck bs) ∙ h in absurd (cc)

comes_first : (bytes : List ℕ) (told : List Item) (s : State) → Holds bytes told s → (loser : Kind) (entries : List Entry) (rest : List ℕ) → IsTrue (has_text entries) → bytes ++ rest ≡ list_text loser entries
    → (later : List Item) × (list_items loser entries ≡ told ++ later)
comes_first bytes told s h loser entries rest f e =
    let r = text_stands loser entries f in
    told_stay rest told (list_items loser entries) s (due r.0)
    (ap (λ (x : Standing). standing_from x rest) (sym h.stands) ∙ sym (append_standing (going [] (state_at at_start)) bytes rest) ∙ ap standing e ∙ r.1)

pub is_going : (bytes : List ℕ) (told : List Item) (s : State) → Holds bytes told s → IsGoing bytes told s
is_going bytes told s h = record {
  begins = holds_begins bytes told s h;
  text = h.text;
  fits = h.fits;
  accepted = h.accepted;
  first = λ loser entries rest f e. comes_first bytes told s h loser entries rest f e;
  ended = λ e. let d = between_is s e in whole_text bytes told d.0 (subst (Holds bytes told) d.1 h);
  unended = λ t. let d = text_between bytes told s h.stands t in ap is_between d.1;
}

told_stopped : (front : List ℕ) (told : List Item) (s : State) (b : ℕ) (bs : List ℕ) → Holds front told s → standing (front ++ b ∷ []) ≡ no_text → Tells no_text (front ++ b ∷ bs)
told_stopped front told s b bs h g =
    let many : length (front ++ b ∷ bs) ≡ length front + suc (length bs) = length-append front (b ∷ bs) in
    (length front, omega arith, stopped front b bs (holds_begins front told s h) g)

tells : (bs front : List ℕ) (told : List Item) (s : State) → Holds front told s → Tells (standing_from (going told s) bs) (front ++ bs)
tells [] front told s h = is_going (front ++ []) told s (subst (λ (u : List ℕ). Holds u told s) (sym (append-nil front)) h)
tells (b ∷ bs) front told s h = by (next s b) (holds_next front told s b h) (λ (is : List Item) (t : State) g. tells bs (front ++ b ∷ []) is t g)
  where
    by : (n : Next) → HoldsNext front told b n → ((is : List Item) (t : State) → Holds (front ++ b ∷ []) is t → Tells (standing_from (going is t) bs) ((front ++ b ∷ []) ++ bs))
        → Tells (standing_from (moved told n) bs) (front ++ b ∷ bs)
    by (more t) g later = subst (Tells (standing_from (going told t) bs)) (append_assoc front (b ∷ []) bs) (later told t g)
    by (whole i) g later =
        subst (Tells (standing_from (going (told ++ i ∷ []) (state_at (place_after i))) bs)) (append_assoc front (b ∷ []) bs) (later (told ++ i ∷ []) (state_at (place_after i)) g)
    by wrong g later = subst (λ (x : Standing). Tells x (front ++ b ∷ bs)) (sym (stuck bs)) (told_stopped front told s b bs h g)

pub all_told : (bytes : List ℕ) → Tells (standing bytes) bytes
all_told bytes = tells bytes [] [] (state_at at_start) holds_first
