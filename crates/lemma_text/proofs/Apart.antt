-- No piece's text begins another's.
use Rattle.std.proofs.Common.{◌≡◌, sym, ap, ◌∙◌, ℕ, List, [], ◌∷◌, ◌++◌}
use Rattle.std.specs.Prelude.{IsTrue}
use Rattle.std.proofs.lemmas.List.{append-nil, append_cancel_left}
use Rattle.lemma_text.specs.declared.item.Item.{Item}
use Rattle.lemma_text.specs.Items.{item_text, item_fits}
use Rattle.lemma_text.specs.States.{State, Next, more, whole, wrong, next, Place, state_at, place_after, allows}
use Rattle.lemma_text.specs.Standing.{going, no_text, moved, standing_from}
use Rattle.lemma_text.proofs.PiecesRead.{piece_read}
use Rattle.lemma_text.proofs.Faults.{stuck}

-- the first piece stays the first
first_stays : (bs : List ℕ) (i : Item) (is : List Item) (t : State) (j : Item) (js : List Item) (u : State) → standing_from (going (i ∷ is) t) bs ≡ going (j ∷ js) u → i ≡ j
first_stays [] i is t j js u h = cc
first_stays (b ∷ bs) i is t j js u h = by (next t b) h (λ (ks : List Item) (s : State) g. first_stays bs i ks s j js u g)
  where
    by : (n : Next) → standing_from (moved (i ∷ is) n) bs ≡ going (j ∷ js) u → ((ks : List Item) (s : State) → standing_from (going (i ∷ ks) s) bs ≡ going (j ∷ js) u → i ≡ j) → i ≡ j
    by (more s) h later = later is s h
    by (whole k) h later = later (is ++ k ∷ []) (state_at (place_after k)) h
    by wrong h later = let clash : no_text ≡ going (j ∷ js) u = sym (stuck bs) ∙ h in absurd (cc)

pub pieces_apart : (p : Place) (i j : Item) (rest : List ℕ) → IsTrue (allows p i) → IsTrue (allows p j) → IsTrue (item_fits i) → IsTrue (item_fits j) → item_text i ++ rest ≡ item_text j → (i ≡ j) × (rest ≡ [])
pieces_apart p i j rest a b f g h =
    let read = sym (piece_read p i [] rest a f) ∙ ap (standing_from (going [] (state_at p))) (h ∙ sym (append-nil (item_text j))) ∙ piece_read p j [] [] b g in
    let same : i ≡ j = first_stays rest i [] (state_at (place_after i)) j [] (state_at (place_after j)) read in
    (same, append_cancel_left (item_text i) rest [] (h ∙ ap item_text (sym same) ∙ sym (append-nil (item_text i))))
