-- Any bytes are the text of one certificate, or have one fault.
use Rattle.std.proofs.Common.{◌≡◌, ◌⊎◌, inl, inr, refl, sym, ap, ◌∙◌, subst, ℕ, zero, suc, ◌+◌, ◌≤◌, ◌<◌, List, [], ◌∷◌, ◌++◌, take, drop, length, true, None, arith, length-append, append_assoc, take-append-drop}
use Rattle.std.specs.Prelude.{flat_map, pos}
use Rattle.std.specs.List.{list_all}
use Rattle.std.proofs.lemmas.Grind.{flat_map-append}
use Rattle.std.proofs.lemmas.Bool.{and_from, and_parts, cases_lt}
use Rattle.std.proofs.lemmas.List.{append-nil, take-take, take_at, take_all, length_push}
use Rattle.std.proofs.lemmas.List.Folds.{list_all-append}
use Rattle.proof_tree.specs.declared.tree.Outcome.TheVariants.{True}
use Rattle.dense_text.specs.declared.piece.Piece.{Piece}
use Rattle.dense_text.specs.declared.piece.Piece.TheVariants.{Head, Given, Reply, Chosen, Value, Named, Horizon, Stuck, Goal, Again, NoPlay, Close, Bound, Empty, Barred, BestLeft, Next, Branch, Range, Skip, LeftOpen, Dot}
use Rattle.dense_text.specs.declared.parts.Due.{Due}
use Rattle.dense_text.specs.declared.parts.Due.TheVariants.{Givens, Node, AfterName, AfterHorizon, AfterStep, Case, AfterRange, Ended}
use Rattle.dense_text.specs.Pieces.{piece_text, piece_fits, certificate_pieces}
use Rattle.dense_text.specs.Grammar.{Place, at_start, at_value, at, allows, one_less, open_after, onward, due_after, place_after, accepts, end_place, end_open}
use Rattle.dense_text.specs.States.{State, outcome, due, After, more, whole, wrong, next, state_at}
use Rattle.dense_text.specs.Standing.{Standing, going, no_text, moved, next_standing, standing_from, standing}
use Rattle.dense_text.specs.Unfinished.{pending, Inside}
use Rattle.dense_text.specs.Places.{IsText, BeginsText, IsFault}
use Rattle.dense_text.proofs.Spelled.{certificate_spelled}
use Rattle.dense_text.proofs.Whole.{Comes, comes, same_is}
use Rattle.dense_text.proofs.Parsed.{certificate_parsed}
use Rattle.dense_text.proofs.OneText.{text_stands, one_text, stuck, append_standing}
use Rattle.dense_text.proofs.StatesKept.{Kept, state_kept, begins_inside, Completed, Ready, between, within, ready}

-- pieces with which a text can end from a place on
abbrev dots : ℕ → List Piece
dots zero = []
dots (suc n) = Dot ∷ dots n

dots_come : (n : ℕ) → Comes (onward n) n (dots n)
dots_come zero = record { accepted = refl; ended = refl; fits = refl }
dots_come (suc n) = comes (at Case) (suc n) Dot (dots n) refl refl (dots_come n)

abbrev AnEnd : Place → ℕ → Type 0
AnEnd p n = (is : List Piece) × Comes p n is

due_ends : (d : Due) (n : ℕ) → AnEnd (at d) n
due_ends Givens n = (Goal ∷ dots n, comes (at Givens) n Goal (dots n) refl refl (dots_come n))
due_ends Node n = (Goal ∷ dots n, comes (at Node) n Goal (dots n) refl refl (dots_come n))
due_ends AfterName n = (Goal ∷ dots n, comes (at AfterName) n Goal (dots n) refl refl (dots_come n))
due_ends AfterHorizon n = (Goal ∷ dots n, comes (at AfterHorizon) n Goal (dots n) refl refl (dots_come n))
due_ends AfterStep n = (Empty ∷ dots n, comes (at AfterStep) n Empty (dots n) refl refl (dots_come n))
due_ends Case n = (Dot ∷ dots (one_less n), comes (at Case) n Dot (dots (one_less n)) refl refl (dots_come (one_less n)))
due_ends AfterRange n = (Skip ∷ dots n, comes (at AfterRange) n Skip (dots n) refl refl (dots_come n))
due_ends Ended n = ([], record { accepted = refl; ended = refl; fits = refl })

place_ends : (p : Place) (n : ℕ) → AnEnd p n
place_ends at_start n = let e = due_ends Givens n in (Head True None ∷ e.0, comes at_start n (Head True None) e.0 refl refl e.1)
place_ends (at_value u) n = let e = due_ends (due_after u) n in (Value u (pos 0) true ∷ e.0, comes (at_value u) n (Value u (pos 0) true) e.0 (same_is u) refl e.1)
place_ends (at d) n = due_ends d n

come_after : (is js : List Piece) (p : Place) (n : ℕ) → accepts p n is ≡ true → list_all piece_fits is ≡ true → Comes (end_place p n is) (end_open n is) js → Comes p n (is ++ js)
come_after [] js p n a f c = c
come_after (i ∷ is) js p n a f c =
    let q = and_parts (allows p i) (accepts (place_after (open_after n i) i) (open_after n i) is) a in
    let o = and_parts (piece_fits i) (list_all piece_fits is) f in
    comes p n i (is ++ js) q.0 o.0 (come_after is js (place_after (open_after n i) i) (open_after n i) q.1 o.1 c)

-- pieces with which the text ends are a text
pieces_text : (is : List Piece) → Comes at_start 0 is → IsText (flat_map piece_text is)
pieces_text is c =
    let r = certificate_parsed is c.accepted c.ended c.fits in
    (r.outcome, r.optimum, r.c, r.fits, ap (flat_map piece_text) r.are ∙ certificate_spelled r.outcome r.optimum r.c)

begun_text : (is : List Piece) → accepts at_start 0 is ≡ true → list_all piece_fits is ≡ true → BeginsText (flat_map piece_text is)
begun_text is a f =
    let e = place_ends (end_place at_start 0 is) (end_open 0 is) in
    (flat_map piece_text e.0, subst IsText (flat_map-append piece_text is e.0) (pieces_text (is ++ e.0) (come_after is e.0 at_start 0 a f e.1)))

-- what is so while bytes begin a text
pub record Holds (bytes : List ℕ) (told : List Piece) (n : ℕ) (s : State) : Type 0 where
  pub stands : standing bytes ≡ going told n s
  pub accepted : accepts at_start 0 told ≡ true
  pub counted : end_open 0 told ≡ n
  pub few : n ≤ length bytes
  pub inside : Inside (end_place at_start 0 told) s
  pub fits : list_all piece_fits told ≡ true
  pub text : bytes ≡ flat_map piece_text told ++ pending s

pub holds_first : Holds [] [] 0 (state_at at_start)
holds_first = record { stands = refl; accepted = refl; counted = refl; few = omega arith; inside = (refl, omega arith); fits = refl; text = refl }

-- one byte more
push_standing : (s : Standing) (bytes : List ℕ) (b : ℕ) → standing_from s (bytes ++ b ∷ []) ≡ next_standing (standing_from s bytes) b
push_standing s [] b = refl
push_standing s (c ∷ cs) b = push_standing (next_standing s c) cs b

pub standing_next : (bytes : List ℕ) (b : ℕ) → standing (bytes ++ b ∷ []) ≡ next_standing (standing bytes) b
standing_next bytes b = push_standing (going [] 0 (state_at at_start)) bytes b

accepts_push : (p : Place) (n : ℕ) (is : List Piece) (i : Piece) → accepts p n is ≡ true → allows (end_place p n is) i ≡ true → accepts p n (is ++ i ∷ []) ≡ true
accepts_push p n [] i a h = and_from _ _ h refl
accepts_push p n (j ∷ js) i a h =
    let q = and_parts (allows p j) (accepts (place_after (open_after n j) j) (open_after n j) js) a in
    and_from _ _ q.0 (accepts_push (place_after (open_after n j) j) (open_after n j) js i q.1 h)

open_push : (n : ℕ) (is : List Piece) (i : Piece) → end_open n (is ++ i ∷ []) ≡ open_after (end_open n is) i
open_push n [] i = refl
open_push n (j ∷ js) i = open_push (open_after n j) js i

end_push : (p : Place) (n : ℕ) (is : List Piece) (i : Piece) → end_place p n (is ++ i ∷ []) ≡ place_after (open_after (end_open n is) i) i
end_push p n [] i = refl
end_push p n (j ∷ js) i = end_push (place_after (open_after n j) j) (open_after n j) js i

fits_push : (is : List Piece) (i : Piece) → list_all piece_fits is ≡ true → piece_fits i ≡ true → list_all piece_fits (is ++ i ∷ []) ≡ true
fits_push is i h g = list_all-append piece_fits is (i ∷ []) ∙ and_from _ _ h (and_from _ _ g refl)

text_push : (is : List Piece) (i : Piece) → flat_map piece_text (is ++ i ∷ []) ≡ flat_map piece_text is ++ piece_text i
text_push is i = flat_map-append piece_text is (i ∷ []) ∙ ap (λ (u : List ℕ). flat_map piece_text is ++ u) (append-nil (piece_text i))

pub nothing_pending : (p : Place) → pending (state_at p) ≡ []
nothing_pending at_start = refl
nothing_pending (at_value u) = refl
nothing_pending (at d) = refl

-- a piece opens one branch at most
one_less_is : (n : ℕ) → one_less n ≤ n + 1
one_less_is zero = omega arith
one_less_is (suc n) = omega arith

one_more : (n : ℕ) (i : Piece) → open_after n i ≤ n + 1
one_more n (Head o v) = omega arith
one_more n (Given k bare) = omega arith
one_more n (Reply bare) = omega arith
one_more n (Chosen bare) = omega arith
one_more n (Value w v last) = omega arith
one_more n Named = omega arith
one_more n (Horizon k) = omega arith
one_more n Stuck = omega arith
one_more n Goal = omega arith
one_more n (Again m) = omega arith
one_more n (NoPlay k) = omega arith
one_more n Close = omega arith
one_more n (Bound x low high) = omega arith
one_more n Empty = omega arith
one_more n Barred = omega arith
one_more n BestLeft = omega arith
one_more n Next = omega arith
one_more n (Branch x) = omega arith
one_more n (Range high) = omega arith
one_more n Skip = omega arith
one_more n LeftOpen = omega arith
one_more n Dot = one_less_is n

abbrev pub HoldsNext : List ℕ → List Piece → ℕ → ℕ → After → Type 0
HoldsNext bytes told n b (more t) = Holds (bytes ++ b ∷ []) told n t
HoldsNext bytes told n b (whole i) = Holds (bytes ++ b ∷ []) (told ++ i ∷ []) (open_after n i) (state_at (place_after (open_after n i) i))
HoldsNext bytes told n b wrong = standing (bytes ++ b ∷ []) ≡ no_text

holds_by : (bytes : List ℕ) (told : List Piece) (n : ℕ) (s : State) (b : ℕ) (x : After) → Holds bytes told n s → next s b ≡ x → Kept (end_place at_start 0 told) s b x → HoldsNext bytes told n b x
holds_by bytes told n s b (more t) h e k =
    let many : length (bytes ++ b ∷ []) ≡ length bytes + 1 = length_push bytes b in
    let few = h.few in
    record {
      stands = standing_next bytes b ∙ ap (λ (x : Standing). next_standing x b) h.stands ∙ ap (moved told n) e;
      accepted = h.accepted;
      counted = h.counted;
      few = omega arith;
      inside = k.0;
      fits = h.fits;
      text = ap (λ (u : List ℕ). u ++ b ∷ []) h.text ∙ append_assoc (flat_map piece_text told) (pending s) (b ∷ []) ∙ ap (λ (u : List ℕ). flat_map piece_text told ++ u) (sym k.1);
    }
holds_by bytes told n s b (whole i) h e k =
    let many : length (bytes ++ b ∷ []) ≡ length bytes + 1 = length_push bytes b in
    let few = h.few in
    let most = one_more n i in
    let open_is : end_open 0 (told ++ i ∷ []) ≡ open_after n i = open_push 0 told i ∙ ap (λ (m : ℕ). open_after m i) h.counted in
    let place_is : end_place at_start 0 (told ++ i ∷ []) ≡ place_after (open_after n i) i = end_push at_start 0 told i ∙ ap (λ (m : ℕ). place_after (open_after m i) i) h.counted in
    record {
      stands = standing_next bytes b ∙ ap (λ (x : Standing). next_standing x b) h.stands ∙ ap (moved told n) e;
      accepted = accepts_push at_start 0 told i h.accepted k.allowed;
      counted = open_is;
      few = omega arith;
      inside = begins_inside (end_place at_start 0 (told ++ i ∷ [])) (state_at (place_after (open_after n i) i)) (ap state_at (sym place_is));
      fits = fits_push told i h.fits k.fits;
      text = ap (λ (u : List ℕ). u ++ b ∷ []) h.text ∙ append_assoc (flat_map piece_text told) (pending s) (b ∷ []) ∙ ap (λ (u : List ℕ). flat_map piece_text told ++ u) (sym k.text)
          ∙ sym (text_push told i) ∙ sym (append-nil (flat_map piece_text (told ++ i ∷ []))) ∙ ap (λ (u : List ℕ). flat_map piece_text (told ++ i ∷ []) ++ u) (sym (nothing_pending (place_after (open_after n i) i)));
    }
holds_by bytes told n s b wrong h e k = standing_next bytes b ∙ ap (λ (x : Standing). next_standing x b) h.stands ∙ ap (moved told n) e

pub holds_next : (bytes : List ℕ) (told : List Piece) (n : ℕ) (s : State) (b : ℕ) → Holds bytes told n s → HoldsNext bytes told n b (next s b)
holds_next bytes told n s b h = holds_by bytes told n s b (next s b) h refl (state_kept (end_place at_start 0 told) s b h.inside)

-- where nothing more may come, all pieces are those of a text
pub whole_text : (bytes : List ℕ) (told : List Piece) (n : ℕ) → Holds bytes told n (due Ended) → IsText bytes
whole_text bytes told n h = subst IsText (sym (h.text ∙ append-nil (flat_map piece_text told))) (pieces_text told (record { accepted = h.accepted; ended = h.inside; fits = h.fits }))

completed_text : (bytes : List ℕ) (told : List Piece) (n : ℕ) (s : State) → Holds bytes told n s → Completed (end_place at_start 0 told) s → BeginsText bytes
completed_text bytes told n s h c =
    let t = begun_text (told ++ c.i ∷ []) (accepts_push at_start 0 told c.i h.accepted c.allowed) (fits_push told c.i h.fits c.fits) in
    let all : (bytes ++ (c.rest ++ t.0)) ≡ flat_map piece_text (told ++ c.i ∷ []) ++ t.0 =
    sym (append_assoc bytes c.rest t.0)
    ∙ ap (λ (u : List ℕ). u ++ t.0) (ap (λ (u : List ℕ). u ++ c.rest) h.text ∙ append_assoc (flat_map piece_text told) (pending s) c.rest ∙ ap (λ (u : List ℕ). flat_map piece_text told ++ u) (sym c.text) ∙ sym (text_push told c.i)) in
    (c.rest ++ t.0, subst IsText (sym all) t.1)

begins_by : (bytes : List ℕ) (told : List Piece) (n : ℕ) (s : State) → Holds bytes told n s → Ready (end_place at_start 0 told) s → BeginsText bytes
begins_by bytes told n s h (between d e is) =
    subst BeginsText (sym (h.text ∙ ap (λ (t : State). flat_map piece_text told ++ pending t) is ∙ append-nil (flat_map piece_text told))) (begun_text told h.accepted h.fits)
begins_by bytes told n s h (within apart c) = completed_text bytes told n s h c

pub holds_begins : (bytes : List ℕ) (told : List Piece) (n : ℕ) (s : State) → Holds bytes told n s → BeginsText bytes
holds_begins bytes told n s h = begins_by bytes told n s h (ready (end_place at_start 0 told) s h.inside)

-- a text ends where nothing more may come, and nothing that begins one is told to be none
abbrev state_of : Standing → State
state_of (going told n s) = s
state_of no_text = outcome

pub text_ends : (bytes : List ℕ) (told : List Piece) (n : ℕ) (s : State) → standing bytes ≡ going told n s → IsText bytes → s ≡ due Ended
text_ends bytes told n s h t =
    let r = text_stands t.0 t.1 t.2 t.3 in
    ap state_of (sym h ∙ ap standing t.4 ∙ r.1)

begins_goes : (bytes : List ℕ) → BeginsText bytes → standing bytes ≡ no_text → ⊥
begins_goes bytes t h =
    let r = text_stands t.1.0 t.1.1 t.1.2 t.1.3 in
    let clash : no_text ≡ going (certificate_pieces t.1.0 t.1.1 t.1.2) r.0 (due Ended) =
    sym (append_standing (going [] 0 (state_at at_start)) bytes t.0 ∙ ap (λ (x : Standing). standing_from x t.0) h ∙ stuck t.0) ∙ ap standing t.1.4 ∙ r.1 in
    absurd (cc)

-- the first fault is found
abbrev Found : List ℕ → Type 0
Found bytes = IsText bytes ⊎ ((place : ℕ) × IsFault place bytes)

unended : (front : List ℕ) (told : List Piece) (n : ℕ) (s : State) → Holds front told n s → (s ≡ due Ended → ⊥) → IsFault (length front) front
unended front told n s h apart = record {
  within = omega arith;
  before = subst BeginsText (sym (take_all (length front) front (omega arith))) (holds_begins front told n s h);
  here = λ lt b. omega arith;
  unfinished = λ e t. apart (text_ends front told n s h.stands t);
}

pub stopped : (front : List ℕ) (b : ℕ) (bs : List ℕ) → BeginsText front → standing (front ++ b ∷ []) ≡ no_text → IsFault (length front) (front ++ b ∷ bs)
stopped front b bs t h =
    let many : length (front ++ b ∷ bs) ≡ length front + suc (length bs) = length-append front (b ∷ bs) in
    let one : take (length front + 1) (front ++ b ∷ bs) ≡ front ++ b ∷ [] =
    ap (take (length front + 1)) (sym (append_assoc front (b ∷ []) bs)) ∙ take_at (front ++ b ∷ []) bs (length front + 1) (length_push front b) in
    record {
      within = omega arith;
      before = subst BeginsText (sym (take_at front (b ∷ bs) (length front) refl)) t;
      here = λ lt u. begins_goes (front ++ b ∷ []) (subst BeginsText one u) h;
      unfinished = λ e u. omega arith;
    }

-- where a line begins, or nothing more may come
found_due : (front : List ℕ) (told : List Piece) (n : ℕ) (d : Due) → Holds front told n (due d) → Found front
found_due front told n Givens h = inr (length front, unended front told n (due Givens) h (λ e. absurd (cc)))
found_due front told n Node h = inr (length front, unended front told n (due Node) h (λ e. absurd (cc)))
found_due front told n AfterName h = inr (length front, unended front told n (due AfterName) h (λ e. absurd (cc)))
found_due front told n AfterHorizon h = inr (length front, unended front told n (due AfterHorizon) h (λ e. absurd (cc)))
found_due front told n AfterStep h = inr (length front, unended front told n (due AfterStep) h (λ e. absurd (cc)))
found_due front told n Case h = inr (length front, unended front told n (due Case) h (λ e. absurd (cc)))
found_due front told n AfterRange h = inr (length front, unended front told n (due AfterRange) h (λ e. absurd (cc)))
found_due front told n Ended h = inl (whole_text front told n h)

found_end : (front : List ℕ) (told : List Piece) (n : ℕ) (s : State) → Holds front told n s → Ready (end_place at_start 0 told) s → Found front
found_end front told n s h (between d e is) = found_due front told n d (subst (Holds front told n) is h)
found_end front told n s h (within apart c) = inr (length front, unended front told n s h (apart Ended))

found : (bs front : List ℕ) (told : List Piece) (n : ℕ) (s : State) → Holds front told n s → Found (front ++ bs)
found [] front told n s h = subst Found (sym (append-nil front)) (found_end front told n s h (ready (end_place at_start 0 told) s h.inside))
found (b ∷ bs) front told n s h = by (next s b) (holds_next front told n s b h) (λ (is : List Piece) (m : ℕ) (t : State) g. found bs (front ++ b ∷ []) is m t g)
  where
    by : (x : After) → HoldsNext front told n b x → ((is : List Piece) (m : ℕ) (t : State) → Holds (front ++ b ∷ []) is m t → Found ((front ++ b ∷ []) ++ bs)) → Found (front ++ b ∷ bs)
    by (more t) g later = subst Found (append_assoc front (b ∷ []) bs) (later told n t g)
    by (whole i) g later = subst Found (append_assoc front (b ∷ []) bs) (later (told ++ i ∷ []) (open_after n i) (state_at (place_after (open_after n i) i)) g)
    by wrong g later = inr (length front, stopped front b bs (holds_begins front told n s h) g)

pub text_or_fault : (bytes : List ℕ) → Found bytes
text_or_fault bytes = found bytes [] [] 0 (state_at at_start) holds_first

-- and only one
shorter_begins : (bytes : List ℕ) (m n : ℕ) → m ≤ n → BeginsText (take n bytes) → BeginsText (take m bytes)
shorter_begins bytes m n le b =
    let parts : take n bytes ++ b.0 ≡ take m bytes ++ (drop m (take n bytes) ++ b.0) =
    ap (λ (l : List ℕ). l ++ b.0) (sym (take-append-drop m (take n bytes)) ∙ ap (λ (l : List ℕ). l ++ drop m (take n bytes)) (take-take m n bytes le)) ∙ append_assoc (take m bytes) (drop m (take n bytes)) b.0 in
    (drop m (take n bytes) ++ b.0, subst IsText parts b.1)

pub no_earlier : (bytes : List ℕ) (place later : ℕ) → IsFault place bytes → later ≤ length bytes → BeginsText (take later bytes) → place < later → ⊥
no_earlier bytes place later p le b lt = p.here (omega arith) (shorter_begins bytes (place + 1) later (omega arith) b)

pub never_both : (bytes : List ℕ) (place : ℕ) → IsText bytes → IsFault place bytes → ⊥
never_both bytes place t f =
    let w = f.within in
    elim (cases_lt place (length bytes)) [
      | inl lt ↦ f.here lt (drop (place + 1) bytes, subst IsText (sym (take-append-drop (place + 1) bytes)) t)
      | inr ge ↦ f.unfinished (omega arith) t
    ]

pub one_fault : (bytes : List ℕ) (place other : ℕ) → IsFault place bytes → IsFault other bytes → place ≡ other
one_fault bytes place other p q =
    elim (cases_lt place other) [
      | inl lt ↦ absurd (no_earlier bytes place other p q.within q.before lt)
      | inr le ↦ elim (cases_lt other place) [ inl lt ↦ absurd (no_earlier bytes other place q p.within p.before lt) | inr ge ↦ omega arith ]
    ]

pub one_of_certificates : (bytes : List ℕ) (p q : IsText bytes) → (p.0 ≡ q.0) × (p.1 ≡ q.1) × (p.2 ≡ q.2)
one_of_certificates bytes p q = one_text p.0 q.0 p.1 q.1 p.2 q.2 p.3 q.3 (sym p.4 ∙ q.4)
