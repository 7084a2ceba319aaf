-- Reading byte by byte says the truth of the bytes.
use Rattle.std.proofs.Common.{◌≡◌, refl, sym, ap, ◌∙◌, subst, ℕ, suc, ◌+◌, Option, List, [], ◌∷◌, ◌++◌, length, true, arith, length-append, append_assoc}
use Rattle.std.specs.Prelude.{IsTrue, ℤ}
use Rattle.std.proofs.lemmas.List.{append-nil}
use Rattle.proof_tree.specs.declared.tree.Outcome.{Outcome}
use Rattle.dense_tree.specs.Tree.{Certificate}
use Rattle.dense_tree.specs.Text.{certificate_text, has_text}
use Rattle.dense_text.specs.declared.piece.Piece.{Piece}
use Rattle.dense_text.specs.declared.parts.Due.{Due}
use Rattle.dense_text.specs.declared.parts.Due.TheVariants.{Givens, Node, AfterName, AfterHorizon, AfterStep, Case, AfterRange, Ended}
use Rattle.dense_text.specs.Pieces.{certificate_pieces}
use Rattle.dense_text.specs.Grammar.{at_start, open_after, place_after}
use Rattle.dense_text.specs.States.{State, word, outcome, won, due, lettered, number, After, more, whole, wrong, next, state_at}
use Rattle.dense_text.specs.Standing.{Standing, going, no_text, moved, standing_from, standing}
use Rattle.dense_text.specs.Telling.{is_last, is_ended, IsGoing, Tells}
use Rattle.dense_text.proofs.OneText.{text_stands, stuck, append_standing}
use Rattle.dense_text.proofs.Faults.{Holds, holds_first, HoldsNext, holds_next, whole_text, holds_begins, text_ends, stopped}

last_is : (d : Due) → is_last d ≡ true → d ≡ Ended
last_is Givens h = absurd (cc)
last_is Node h = absurd (cc)
last_is AfterName h = absurd (cc)
last_is AfterHorizon h = absurd (cc)
last_is AfterStep h = absurd (cc)
last_is Case h = absurd (cc)
last_is AfterRange h = absurd (cc)
last_is Ended h = refl

ended_is : (s : State) → is_ended s ≡ true → s ≡ due Ended
ended_is (word w read) h = absurd (cc)
ended_is outcome h = absurd (cc)
ended_is won h = absurd (cc)
ended_is (due d) h = ap due (last_is d h)
ended_is (lettered f) h = absurd (cc)
ended_is (number f vs gs n) h = absurd (cc)

-- pieces that were told stay
told_stay : (bs : List ℕ) (told is : List Piece) (n m : ℕ) (s t : State) → standing_from (going told n s) bs ≡ going is m t → (later : List Piece) × (is ≡ told ++ later)
told_stay [] told is n m s t h = let same : told ≡ is = cc in ([], sym same ∙ sym (append-nil told))
told_stay (b ∷ bs) told is n m s t h = by (next s b) h (λ (ks : List Piece) (k : ℕ) (u : State) g. told_stay bs ks is k m u t g)
  where
    by : (x : After) → standing_from (moved told n x) bs ≡ going is m t → ((ks : List Piece) (k : ℕ) (u : State) → standing_from (going ks k u) bs ≡ going is m t → (later : List Piece) × (is ≡ ks ++ later)) → (later : List Piece) × (is ≡ told ++ later)
    by (more u) h go = go told n u h
    by (whole i) h go = let r = go (told ++ i ∷ []) (open_after n i) (state_at (place_after (open_after n i) i)) h in (i ∷ r.0, r.1 ∙ append_assoc told (i ∷ []) r.0)
    by wrong h go = let clash : no_text ≡ going is m t = sym (stuck bs) ∙ h in absurd (cc)

comes_first : (bytes : List ℕ) (told : List Piece) (n : ℕ) (s : State) → Holds bytes told n s → (o : Outcome) (optimum : Option ℤ) (c : Certificate) (rest : List ℕ) → IsTrue (has_text o optimum c)
    → bytes ++ rest ≡ certificate_text o optimum c → (later : List Piece) × (certificate_pieces o optimum c ≡ told ++ later)
comes_first bytes told n s h o optimum c rest f e =
    let r = text_stands o optimum c f in
    told_stay rest told (certificate_pieces o optimum c) n r.0 s (due Ended)
    (ap (λ (x : Standing). standing_from x rest) (sym h.stands) ∙ sym (append_standing (going [] 0 (state_at at_start)) bytes rest) ∙ ap standing e ∙ r.1)

is_going : (bytes : List ℕ) (told : List Piece) (n : ℕ) (s : State) → Holds bytes told n s → IsGoing bytes told n s
is_going bytes told n s h = record {
  begins = holds_begins bytes told n s h;
  text = h.text;
  fits = h.fits;
  accepted = h.accepted;
  counted = h.counted;
  few = h.few;
  first = λ o optimum c rest f e. comes_first bytes told n s h o optimum c rest f e;
  ended = λ e. whole_text bytes told n (subst (Holds bytes told n) (ended_is s e) h);
  unended = λ t. ap is_ended (text_ends bytes told n s h.stands t);
}

told_stopped : (front : List ℕ) (told : List Piece) (n : ℕ) (s : State) (b : ℕ) (bs : List ℕ) → Holds front told n s → standing (front ++ b ∷ []) ≡ no_text → Tells no_text (front ++ b ∷ bs)
told_stopped front told n s b bs h g =
    let many : length (front ++ b ∷ bs) ≡ length front + suc (length bs) = length-append front (b ∷ bs) in
    (length front, omega arith, stopped front b bs (holds_begins front told n s h) g)

tells : (bs front : List ℕ) (told : List Piece) (n : ℕ) (s : State) → Holds front told n s → Tells (standing_from (going told n s) bs) (front ++ bs)
tells [] front told n s h = is_going (front ++ []) told n s (subst (λ (u : List ℕ). Holds u told n s) (sym (append-nil front)) h)
tells (b ∷ bs) front told n s h = by (next s b) (holds_next front told n s b h) (λ (is : List Piece) (m : ℕ) (t : State) g. tells bs (front ++ b ∷ []) is m t g)
  where
    by : (x : After) → HoldsNext front told n b x → ((is : List Piece) (m : ℕ) (t : State) → Holds (front ++ b ∷ []) is m t → Tells (standing_from (going is m t) bs) ((front ++ b ∷ []) ++ bs))
        → Tells (standing_from (moved told n x) bs) (front ++ b ∷ bs)
    by (more t) g later = subst (Tells (standing_from (going told n t) bs)) (append_assoc front (b ∷ []) bs) (later told n t g)
    by (whole i) g later =
        let m : ℕ = open_after n i in
        subst (Tells (standing_from (going (told ++ i ∷ []) m (state_at (place_after m i))) bs)) (append_assoc front (b ∷ []) bs) (later (told ++ i ∷ []) m (state_at (place_after m i)) g)
    by wrong g later = subst (λ (x : Standing). Tells x (front ++ b ∷ bs)) (sym (stuck bs)) (told_stopped front told n s b bs h g)

pub all_told : (bytes : List ℕ) → Tells (standing bytes) bytes
all_told bytes = tells bytes [] [] 0 (state_at at_start) holds_first
