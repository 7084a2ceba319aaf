-- No piece's text begins another's.
use Rattle.std.proofs.Common.{◌≡◌, sym, ap, ◌∙◌, ℕ, List, [], ◌∷◌, ◌++◌}
use Rattle.std.specs.Prelude.{IsTrue}
use Rattle.std.proofs.lemmas.List.{append-nil, append_cancel_left}
use Rattle.dense_text.specs.declared.piece.Piece.{Piece}
use Rattle.dense_text.specs.Pieces.{piece_text, piece_fits}
use Rattle.dense_text.specs.Grammar.{Place, allows, open_after, place_after}
use Rattle.dense_text.specs.States.{State, After, more, whole, wrong, next, state_at}
use Rattle.dense_text.specs.Standing.{going, no_text, moved, standing_from}
use Rattle.dense_text.proofs.OneText.{stuck}
use Rattle.dense_text.proofs.PiecesRead.{piece_read}

-- the first piece stays the first
first_stays : (bs : List ℕ) (i : Piece) (is : List Piece) (n : ℕ) (t : State) (j : Piece) (js : List Piece) (m : ℕ) (u : State) → standing_from (going (i ∷ is) n t) bs ≡ going (j ∷ js) m u → i ≡ j
first_stays [] i is n t j js m u h = cc
first_stays (b ∷ bs) i is n t j js m u h = by (next t b) h (λ (ks : List Piece) (k : ℕ) (s : State) g. first_stays bs i ks k s j js m u g)
  where
    by : (x : After) → standing_from (moved (i ∷ is) n x) bs ≡ going (j ∷ js) m u → ((ks : List Piece) (k : ℕ) (s : State) → standing_from (going (i ∷ ks) k s) bs ≡ going (j ∷ js) m u → i ≡ j) → i ≡ j
    by (more s) h later = later is n s h
    by (whole k) h later = later (is ++ k ∷ []) (open_after n k) (state_at (place_after (open_after n k) k)) h
    by wrong h later = let clash : no_text ≡ going (j ∷ js) m u = sym (stuck bs) ∙ h in absurd (cc)

pub pieces_apart : (p : Place) (i j : Piece) (rest : List ℕ) → IsTrue (allows p i) → IsTrue (allows p j) → IsTrue (piece_fits i) → IsTrue (piece_fits j) → piece_text i ++ rest ≡ piece_text j → (i ≡ j) × (rest ≡ [])
pieces_apart p i j rest a b f g h =
    let read = sym (piece_read p i [] 0 rest a f) ∙ ap (standing_from (going [] 0 (state_at p))) (h ∙ sym (append-nil (piece_text j))) ∙ piece_read p j [] 0 [] b g in
    let n : ℕ = open_after 0 i in
    let m : ℕ = open_after 0 j in
    let same : i ≡ j = first_stays rest i [] n (state_at (place_after n i)) j [] m (state_at (place_after m j)) read in
    (same, append_cancel_left (piece_text i) rest [] (h ∙ ap piece_text (sym same) ∙ sym (append-nil (piece_text i))))
