-- From the pieces that a reader keeps and tells to the bytes that it was given.
use Rattle.std.proofs.Common.{◌≡◌, inl, inr, refl, sym, ap, ◌∙◌, subst, ℕ, suc, ◌+◌, ◌<◌, ◌≤◌, ◌^◌, List, [], ◌∷◌, ◌++◌, length, Bool, true, false, Option, Some, None, arith, length-append}
use Rattle.std.specs.Prelude.{flat_map, codes}
use Rattle.std.specs.Fmt.{signed_decimal}
use Rattle.std.specs.List.{list_all}
use Rattle.std.proofs.lemmas.Bool.{and_parts, cases_lt}
use Rattle.std.proofs.lemmas.List.{append-nil, take_at, take_all, length_push}
use Rattle.std.proofs.lemmas.List.Folds.{list_all-append}
use Rattle.proof_tree.specs.Text.{place_text, range_text}
use Rattle.lemma_text.specs.Items.{end_text}
use Rattle.dense_text.specs.declared.piece.Piece.{Piece}
use Rattle.dense_text.specs.declared.piece.Piece.TheVariants.{Head, Given, Reply, Chosen, Value, Named, Horizon, Stuck, Goal, Again, NoPlay, Close, Bound, Empty, Barred, BestLeft, Next, Branch, Range, Skip, LeftOpen, Dot}
use Rattle.dense_text.specs.declared.parts.Due.{Due}
use Rattle.dense_text.specs.declared.reader.Fed.{Fed}
use Rattle.dense_text.specs.declared.reader.Fed.TheVariants.{More, Whole, Bad}
use Rattle.dense_text.specs.declared.reader.End.TheVariants.{Whole as WholeEnd, CutShort, Bad as BadEnd}
use Rattle.dense_text.specs.Kept.{Held, held}
use Rattle.dense_text.specs.Pieces.{piece_text, piece_fits}
use Rattle.dense_text.specs.Grammar.{Place, at_start, at_value, at, allows, open_after, place_after}
use Rattle.dense_text.specs.States.{State, state_at}
use Rattle.dense_text.specs.Standing.{Standing, going, no_text, next_standing, standing_from, standing}
use Rattle.dense_text.specs.Places.{BeginsText, IsFault}
use Rattle.dense_text.specs.Telling.{is_ended, Tells}
use Rattle.dense_text.specs.Reader.{tell, standing_of, StandsFor, HasRoom, HasStopped, Says, SaysWhole, IsTold, Ends, Goes}
use Rattle.dense_text.specs.WholeLines.{BeginsWith, IsAt, IsAfterHead, held_after, GoesOver}
use Rattle.dense_text.proofs.OneText.{told_of, text_stands, append_standing}
use Rattle.dense_text.proofs.PiecesRead.{piece_read}
use Rattle.dense_text.proofs.Faults.{standing_next, nothing_pending, no_earlier}
use Rattle.dense_text.proofs.Telling.{all_told}

-- what stands so says what is so of the bytes
stood : (kept : Option Held) (bytes : List ℕ) (told : List Piece) → standing bytes ≡ standing_of told kept → StandsFor kept bytes told
stood kept bytes told h = (h, subst (λ (x : Standing). Tells x bytes) h (all_told bytes))

pub stands_first : StandsFor (Some (held 0 (state_at at_start))) [] []
stands_first = stood (Some (held 0 (state_at at_start))) [] [] refl

-- within so many bytes no more branches are open than can be counted
room : (kept : Option Held) (bytes : List ℕ) (told : List Piece) → length bytes + 1 < 2 ^ 64 → StandsFor kept bytes told → HasRoom kept
room None bytes told l h = tt
room (Some k) bytes told l h = let few = h.1.few in omega arith

stands : (old new : Option Held) (bytes : List ℕ) (told : List Piece) (b : ℕ) (fed : Fed) → length bytes + 1 < 2 ^ 64 → Goes old b new fed → StandsFor old bytes told → StandsFor new (bytes ++ b ∷ []) (tell told fed)
stands old new bytes told b fed l g h =
    stood new (bytes ++ b ∷ []) (tell told fed) (standing_next bytes b ∙ ap (λ (x : Standing). next_standing x b) h.0 ∙ (g (room old bytes told l h)).0 told)

-- a fault that is reached with this byte
stopped_here : (bytes : List ℕ) (b : ℕ) → Tells no_text (bytes ++ b ∷ []) → HasStopped bytes b
stopped_here bytes b t =
    let many : length (bytes ++ b ∷ []) ≡ length bytes + 1 = length_push bytes b in
    let lt = t.1 in
    record {
      place = t.0;
      within = omega arith;
      is = t.2;
      here = λ begins.
          elim (cases_lt t.0 (length bytes)) [
            | inl early ↦ absurd (no_earlier (bytes ++ b ∷ []) t.0 (length bytes) t.2 (omega arith) (subst BeginsText (sym (take_at bytes (b ∷ []) (length bytes) refl)) begins) early)
            | inr late ↦ omega arith
          ];
    }

last_fits : (told : List Piece) (piece : Piece) → list_all piece_fits (told ++ piece ∷ []) ≡ true → piece_fits piece ≡ true
last_fits told piece h =
    let both = and_parts (list_all piece_fits told) (list_all piece_fits (piece ∷ [])) (sym (list_all-append piece_fits told (piece ∷ [])) ∙ h) in
    (and_parts (piece_fits piece) true both.1).0

says : (old new : Option Held) (bytes : List ℕ) (told : List Piece) (b : ℕ) (fed : Fed) → length bytes + 1 < 2 ^ 64 → Goes old b new fed → StandsFor old bytes told → Says bytes told b fed
says old new bytes told b More l g h =
    let t = (g (room old bytes told l h)).1 in
    (subst (λ (k : Option Held). StandsFor k (bytes ++ b ∷ []) told) t.1 (stands old new bytes told b More l g h)).1.begins
says old new bytes told b (Whole piece) l g h =
    let t = (g (room old bytes told l h)).1 in
    let r = (subst (λ (k : Option Held). StandsFor k (bytes ++ b ∷ []) (told ++ piece ∷ [])) t.1 (stands old new bytes told b (Whole piece) l g h)).1 in
    let text = r.text ∙ ap (λ (u : List ℕ). flat_map piece_text (told ++ piece ∷ []) ++ u) (nothing_pending (place_after t.0 piece)) ∙ append-nil (flat_map piece_text (told ++ piece ∷ [])) in
    (r.begins, text, last_fits told piece r.fits, r.accepted)
says old new bytes told b Bad l g h =
    stopped_here bytes b (subst (λ (k : Option Held). StandsFor k (bytes ++ b ∷ []) told) (g (room old bytes told l h)).1 (stands old new bytes told b Bad l g h)).1

-- where no more bytes come
ended_whole : (k : Held) (bytes : List ℕ) (told : List Piece) → is_ended k.state ≡ true → StandsFor (Some k) bytes told → IsTold bytes told
ended_whole k bytes told e h =
    let t = h.1.ended e in
    let r = text_stands t.0 t.1 t.2 t.3 in
    (t.0, t.1, t.2, t.3, t.4, ap told_of (sym h.0 ∙ ap standing t.4 ∙ r.1))

ended_short : (k : Held) (bytes : List ℕ) (told : List Piece) → is_ended k.state ≡ false → StandsFor (Some k) bytes told → BeginsText bytes × IsFault (length bytes) bytes
ended_short k bytes told e h = (
  h.1.begins,
  record {
    within = omega arith;
    before = subst BeginsText (sym (take_all (length bytes) bytes (omega arith))) h.1.begins;
    here = λ lt b. omega arith;
    unfinished = λ all t. let clash : false ≡ true = sym e ∙ h.1.unended t in absurd (cc);
  },
)

-- the same of a reader, whose view is what it keeps
pub stands_for : (old given new : Option Held) (b : ℕ) (fed : Fed) → given ≡ old → Goes given b new fed → (bytes : List ℕ) (told : List Piece) → length bytes + 1 < 2 ^ 64 → StandsFor old bytes told
    → StandsFor new (bytes ++ b ∷ []) (tell told fed)
stands_for old given new b fed e g bytes told l h = stands given new bytes told b fed l g (subst (λ (k : Option Held). StandsFor k bytes told) (sym e) h)

pub says_for : (old given new : Option Held) (b : ℕ) (fed : Fed) → given ≡ old → Goes given b new fed → (bytes : List ℕ) (told : List Piece) → length bytes + 1 < 2 ^ 64 → StandsFor old bytes told → Says bytes told b fed
says_for old given new b fed e g bytes told l h = says given new bytes told b fed l g (subst (λ (k : Option Held). StandsFor k bytes told) (sym e) h)

pub whole_for : (old : Option Held) (k : Held) → Some k ≡ old → is_ended k.state ≡ true → (bytes : List ℕ) (told : List Piece) → StandsFor old bytes told → Ends bytes told WholeEnd
whole_for old k e w bytes told h = ended_whole k bytes told w (subst (λ (x : Option Held). StandsFor x bytes told) (sym e) h)

pub short_for : (old : Option Held) (k : Held) → Some k ≡ old → is_ended k.state ≡ false → (bytes : List ℕ) (told : List Piece) → StandsFor old bytes told → Ends bytes told CutShort
short_for old k e w bytes told h = ended_short k bytes told w (subst (λ (x : Option Held). StandsFor x bytes told) (sym e) h)

pub bad_for : (old : Option Held) → None ≡ old → (bytes : List ℕ) (told : List Piece) → StandsFor old bytes told → Ends bytes told BadEnd
bad_for old e bytes told h = (subst (λ (k : Option Held). StandsFor k bytes told) (sym e) h).1

-- a piece that may come where a line begins has a first byte
begins_somehow : (d : Due) (i : Piece) → allows (at d) i ≡ true → (b : ℕ) × (w : List ℕ) × (piece_text i ≡ b ∷ w)
begins_somehow d (Head o v) a = absurd (cc)
begins_somehow d (Given k bare) a = (117, 32 ∷ (place_text k.0 ++ end_text bare), refl)
begins_somehow d (Reply bare) a = (102, end_text bare, refl)
begins_somehow d (Chosen bare) a = (119, end_text bare, refl)
begins_somehow d (Value u v last) a = absurd (cc)
begins_somehow d Named a = (109, codes "\n", refl)
begins_somehow d (Horizon k) a = (104, 32 ∷ (place_text k.0 ++ codes "\n"), refl)
begins_somehow d Stuck a = (116, codes "\n", refl)
begins_somehow d Goal a = (103, codes "\n", refl)
begins_somehow d (Again n) a = (97, 32 ∷ (place_text n ++ codes "\n"), refl)
begins_somehow d (NoPlay k) a = (108, 32 ∷ (place_text k.0 ++ codes "\n"), refl)
begins_somehow d Close a = (99, codes "\n", refl)
begins_somehow d (Bound x low high) a = (98, 32 ∷ (place_text x.0 ++ (codes " " ++ (range_text low high ++ codes "\n"))), refl)
begins_somehow d Empty a = (101, codes "\n", refl)
begins_somehow d Barred a = (120, codes "\n", refl)
begins_somehow d BestLeft a = (121, codes "\n", refl)
begins_somehow d Next a = (110, codes "\n", refl)
begins_somehow d (Branch x) a = (118, 32 ∷ (place_text x.0 ++ codes "\n"), refl)
begins_somehow d (Range high) a = (114, 32 ∷ (signed_decimal high ++ codes "\n"), refl)
begins_somehow d Skip a = (115, codes "\n", refl)
begins_somehow d LeftOpen a = (111, codes "\n", refl)
begins_somehow d Dot a = (46, codes "\n", refl)

-- so it isn't empty; nor is a value, which a byte ends
end_long : (last : Bool) → 1 ≤ length (end_text last)
end_long true = omega arith
end_long false = omega arith

some_bytes : (p : Place) (i : Piece) → IsAfterHead p → allows p i ≡ true → 1 ≤ length (piece_text i)
some_bytes at_start i w a = absurd w
some_bytes (at_value u) (Value v z last) w a =
    let e : length (piece_text (Value v z last)) ≡ length (signed_decimal z) + length (end_text last) = length-append (signed_decimal z) (end_text last) in
    let one = end_long last in
    omega (arith, e, one)
some_bytes (at_value u) i w a = absurd (cc)
some_bytes (at d) i w a =
    let b = begins_somehow d i a in
    let one : length (piece_text i) ≡ suc (length b.1) = ap length b.2 in
    omega (arith, one)

-- a reader before a line or a value goes over the piece with which the bytes begin
module _ (p : Place) (w : IsAfterHead p) (bytes : List ℕ) (i : Piece) (rest : List ℕ) (b : BeginsWith p i bytes rest) where
  text_goes : (n : ℕ) (before : List ℕ) (told : List Piece) → standing before ≡ going told n (state_at p) → standing (before ++ piece_text i) ≡ standing_of (told ++ i ∷ []) (held_after (Some (held n (state_at p))) i)
  text_goes n before told h =
      append_standing (going [] 0 (state_at at_start)) before (piece_text i)
      ∙ ap (λ (x : Standing). standing_from x (piece_text i)) h
      ∙ ap (standing_from (going told n (state_at p))) (sym (append-nil (piece_text i)))
      ∙ piece_read p i told n [] b.allowed b.fits

  many : (before : List ℕ) → length before + 1 ≤ length (before ++ piece_text i)
  many before =
      let one = some_bytes p i w b.allowed in
      let e : length (before ++ piece_text i) ≡ length before + length (piece_text i) = length-append before (piece_text i) in
      omega (arith, e, one)

  shorter : length rest < length bytes
  shorter =
      let one = some_bytes p i w b.allowed in
      let whole : length bytes ≡ length (piece_text i) + length rest = ap length b.text ∙ length-append (piece_text i) rest in
      omega (arith, whole, one)

  piece_goes : (n : ℕ) (new : Option Held) → (n + 1 < 2 ^ 64 → new ≡ held_after (Some (held n (state_at p))) i) → (before : List ℕ) (told : List Piece) → length (before ++ piece_text i) < 2 ^ 64
      → StandsFor (Some (held n (state_at p))) before told → StandsFor new (before ++ piece_text i) (told ++ i ∷ []) × SaysWhole (before ++ piece_text i) (told ++ i ∷ []) i
  piece_goes n new to before told l h =
      let few = h.1.few in
      let size = many before in
      let after : Option Held = held_after (Some (held n (state_at p))) i in
      let s : StandsFor after (before ++ piece_text i) (told ++ i ∷ []) = stood after (before ++ piece_text i) (told ++ i ∷ []) (text_goes n before told h.0) in
      let r = s.1 in
      let text = r.text ∙ ap (λ (u : List ℕ). flat_map piece_text (told ++ i ∷ []) ++ u) (nothing_pending (place_after (open_after n i) i)) ∙ append-nil (flat_map piece_text (told ++ i ∷ [])) in
      (subst (λ (k : Option Held). StandsFor k (before ++ piece_text i) (told ++ i ∷ [])) (sym (to (omega (arith, few, size, l)))) s, (r.begins, text, b.fits, r.accepted))

  from_place : (n : ℕ) (s : State) (new : Option Held) → s ≡ state_at p → (HasRoom (Some (held n s)) → new ≡ held_after (Some (held n s)) i) → GoesOver (Some (held n s)) new bytes i rest
  from_place n s new e to =
      subst (λ (t : State). GoesOver (Some (held n t)) new bytes i rest) (sym e) (record {
        text = b.text;
        shorter = shorter;
        comes = (p, refl, w, b.allowed);
        stands = λ before told l h. (piece_goes n new to before told l h).0;
        says = λ before told l h. (piece_goes n new to before told l h).1;
      })

  pub goes_over : (old new : Option Held) → IsAt old p → ((q : Place) → IsAt old q → HasRoom old → new ≡ held_after old i) → GoesOver old new bytes i rest
  goes_over None new e to = absurd e
  goes_over (Some h) new e to = from_place h.branches h.state new e (λ room. to p e room)
