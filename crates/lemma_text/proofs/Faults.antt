-- Any bytes are the text of one list, or have one fault.
use Rattle.std.proofs.Common.{◌≡◌, ◌⊎◌, inl, inr, refl, sym, ap, ◌∙◌, subst, ℕ, suc, ◌+◌, ◌≤◌, ◌<◌, List, [], ◌∷◌, ◌++◌, take, drop, length, true, arith, length-append, append_assoc, take-append-drop}
use Rattle.std.specs.Prelude.{flat_map}
use Rattle.std.specs.List.{list_all}
use Rattle.std.proofs.lemmas.Grind.{flat_map-append}
use Rattle.std.proofs.lemmas.Bool.{and_from, and_parts, cases_lt}
use Rattle.std.proofs.lemmas.List.{append-nil, take-take, take_at, take_all, length_push}
use Rattle.std.proofs.lemmas.List.Folds.{list_all-append}
use Rattle.lemma_text.specs.declared.item.Item.{Item}
use Rattle.lemma_text.specs.declared.parts.Due.{Due}
use Rattle.lemma_text.specs.declared.parts.Form.TheVariants.{Literal}
use Rattle.lemma_text.specs.Items.{item_text, item_fits, list_items}
use Rattle.lemma_text.specs.States.{State, outcome, due, Next, more, whole, wrong, next, Place, at_start, at_literal, at, state_at, place_after, allows}
use Rattle.lemma_text.specs.Standing.{Standing, going, no_text, moved, next_standing, standing_from, standing}
use Rattle.lemma_text.specs.Accepted.{accepts, end_place}
use Rattle.lemma_text.specs.Unfinished.{pending, Inside}
use Rattle.lemma_text.specs.Places.{IsText, BeginsText, IsFault}
use Rattle.lemma_text.proofs.Spelled.{list_spelled, list_fits}
use Rattle.lemma_text.proofs.Lists.{parsed}
use Rattle.lemma_text.proofs.OneList.{text_stands, one_text}
use Rattle.lemma_text.proofs.StatesKept.{Kept, state_kept, number_begins, Completed, Ready, between, within, ready}

-- what is so while bytes begin a text
pub record Holds (bytes : List ℕ) (told : List Item) (s : State) : Type 0 where
  pub stands : standing bytes ≡ going told s
  pub accepted : accepts at_start told ≡ true
  pub inside : Inside (end_place at_start told) s
  pub fits : list_all item_fits told ≡ true
  pub text : bytes ≡ flat_map item_text told ++ pending s

pub holds_first : Holds [] [] (state_at at_start)
holds_first = record { stands = refl; accepted = refl; inside = (refl, omega arith); fits = refl; text = refl }

-- one byte more
push_standing : (s : Standing) (bytes : List ℕ) (b : ℕ) → standing_from s (bytes ++ b ∷ []) ≡ next_standing (standing_from s bytes) b
push_standing s [] b = refl
push_standing s (c ∷ cs) b = push_standing (next_standing s c) cs b

pub append_standing : (s : Standing) (bytes rest : List ℕ) → standing_from s (bytes ++ rest) ≡ standing_from (standing_from s bytes) rest
append_standing s [] rest = refl
append_standing s (c ∷ cs) rest = append_standing (next_standing s c) cs rest

pub standing_next : (bytes : List ℕ) (b : ℕ) → standing (bytes ++ b ∷ []) ≡ next_standing (standing bytes) b
standing_next bytes b = push_standing (going [] (state_at at_start)) bytes b

accepts_push : (p : Place) (is : List Item) (i : Item) → accepts p is ≡ true → allows (end_place p is) i ≡ true → accepts p (is ++ i ∷ []) ≡ true
accepts_push p [] i a h = and_from _ _ h refl
accepts_push p (j ∷ js) i a h = let q = and_parts (allows p j) (accepts (place_after j) js) a in and_from _ _ q.0 (accepts_push (place_after j) js i q.1 h)

end_push : (p : Place) (is : List Item) (i : Item) → end_place p (is ++ i ∷ []) ≡ place_after i
end_push p [] i = refl
end_push p (j ∷ js) i = end_push (place_after j) js i

fits_push : (is : List Item) (i : Item) → list_all item_fits is ≡ true → item_fits i ≡ true → list_all item_fits (is ++ i ∷ []) ≡ true
fits_push is i h g = list_all-append item_fits is (i ∷ []) ∙ and_from _ _ h (and_from _ _ g refl)

text_push : (is : List Item) (i : Item) → flat_map item_text (is ++ i ∷ []) ≡ flat_map item_text is ++ item_text i
text_push is i = flat_map-append item_text is (i ∷ []) ∙ ap (λ (u : List ℕ). flat_map item_text is ++ u) (append-nil (item_text i))

begins_inside : (p : Place) → Inside p (state_at p)
begins_inside at_start = (refl, omega arith)
begins_inside at_literal = number_begins at_literal Literal refl
begins_inside (at d) = refl

pub nothing_pending : (p : Place) → pending (state_at p) ≡ []
nothing_pending at_start = refl
nothing_pending at_literal = refl
nothing_pending (at d) = refl

abbrev pub HoldsNext : List ℕ → List Item → ℕ → Next → Type 0
HoldsNext bytes told b (more t) = Holds (bytes ++ b ∷ []) told t
HoldsNext bytes told b (whole i) = Holds (bytes ++ b ∷ []) (told ++ i ∷ []) (state_at (place_after i))
HoldsNext bytes told b wrong = standing (bytes ++ b ∷ []) ≡ no_text

holds_by : (bytes : List ℕ) (told : List Item) (s : State) (b : ℕ) (n : Next) → Holds bytes told s → next s b ≡ n → Kept (end_place at_start told) s b n → HoldsNext bytes told b n
holds_by bytes told s b (more t) h e k = record {
  stands = standing_next bytes b ∙ ap (λ (x : Standing). next_standing x b) h.stands ∙ ap (moved told) e;
  accepted = h.accepted;
  inside = k.0;
  fits = h.fits;
  text = ap (λ (u : List ℕ). u ++ b ∷ []) h.text ∙ append_assoc (flat_map item_text told) (pending s) (b ∷ []) ∙ ap (λ (u : List ℕ). flat_map item_text told ++ u) (sym k.1);
}
holds_by bytes told s b (whole i) h e k = record {
  stands = standing_next bytes b ∙ ap (λ (x : Standing). next_standing x b) h.stands ∙ ap (moved told) e;
  accepted = accepts_push at_start told i h.accepted k.allowed;
  inside = subst (λ (p : Place). Inside p (state_at (place_after i))) (sym (end_push at_start told i)) (begins_inside (place_after i));
  fits = fits_push told i h.fits k.fits;
  text = ap (λ (u : List ℕ). u ++ b ∷ []) h.text ∙ append_assoc (flat_map item_text told) (pending s) (b ∷ []) ∙ ap (λ (u : List ℕ). flat_map item_text told ++ u) (sym k.text)
      ∙ sym (text_push told i) ∙ sym (append-nil (flat_map item_text (told ++ i ∷ []))) ∙ ap (λ (u : List ℕ). flat_map item_text (told ++ i ∷ []) ++ u) (sym (nothing_pending (place_after i)));
}
holds_by bytes told s b wrong h e k = standing_next bytes b ∙ ap (λ (x : Standing). next_standing x b) h.stands ∙ ap (moved told) e

pub holds_next : (bytes : List ℕ) (told : List Item) (s : State) (b : ℕ) → Holds bytes told s → HoldsNext bytes told b (next s b)
holds_next bytes told s b h = holds_by bytes told s b (next s b) h refl (state_kept (end_place at_start told) s b h.inside)

-- whole pieces after which a line begins are a text
pieces_text : (told : List Item) (d : Due) → accepts at_start told ≡ true → end_place at_start told ≡ at d → list_all item_fits told ≡ true → IsText (flat_map item_text told)
pieces_text told d a e f =
    let r = parsed at_start told d a e in
    (r.0, r.1, sym (list_fits r.0 r.1) ∙ ap (list_all item_fits) (sym r.2) ∙ f, ap (flat_map item_text) r.2 ∙ list_spelled r.0 r.1)

pub whole_text : (bytes : List ℕ) (told : List Item) (d : Due) → Holds bytes told (due d) → IsText bytes
whole_text bytes told d h = subst IsText (sym (h.text ∙ append-nil (flat_map item_text told))) (pieces_text told d h.accepted h.inside h.fits)

completed_text : (bytes : List ℕ) (told : List Item) (s : State) → Holds bytes told s → Completed (end_place at_start told) s → BeginsText bytes
completed_text bytes told s h c =
    let all : bytes ++ c.rest ≡ flat_map item_text (told ++ c.i ∷ []) =
    ap (λ (u : List ℕ). u ++ c.rest) h.text ∙ append_assoc (flat_map item_text told) (pending s) c.rest ∙ ap (λ (u : List ℕ). flat_map item_text told ++ u) (sym c.text) ∙ sym (text_push told c.i) in
    (c.rest, subst IsText (sym all) (pieces_text (told ++ c.i ∷ []) c.d (accepts_push at_start told c.i h.accepted c.allowed) (end_push at_start told c.i ∙ c.after) (fits_push told c.i h.fits c.fits)))

begins_by : (bytes : List ℕ) (told : List Item) (s : State) → Holds bytes told s → Ready (end_place at_start told) s → BeginsText bytes
begins_by bytes told s h (between d e is) =
    ([], subst IsText (sym (append-nil bytes)) (whole_text bytes told d (subst (Holds bytes told) is h)))
begins_by bytes told s h (within apart c) = completed_text bytes told s h c

pub holds_begins : (bytes : List ℕ) (told : List Item) (s : State) → Holds bytes told s → BeginsText bytes
holds_begins bytes told s h = begins_by bytes told s h (ready (end_place at_start told) s h.inside)

-- a text ends between lines, and nothing that begins one is told to be none
abbrev state_of : Standing → State
state_of (going told s) = s
state_of no_text = outcome

pub text_between : (bytes : List ℕ) (told : List Item) (s : State) → standing bytes ≡ going told s → IsText bytes → (d : Due) × (s ≡ due d)
text_between bytes told s h t =
    let r = text_stands t.0 t.1 t.2 in
    (r.0, ap state_of (sym h ∙ ap standing t.3 ∙ r.1))

pub stuck : (bs : List ℕ) → standing_from no_text bs ≡ no_text
stuck [] = refl
stuck (b ∷ bs) = stuck bs

pub begins_goes : (bytes : List ℕ) → BeginsText bytes → standing bytes ≡ no_text → ⊥
begins_goes bytes t h =
    let r = text_stands t.1.0 t.1.1 t.1.2 in
    let clash : no_text ≡ going (list_items t.1.0 t.1.1) (due r.0) =
    sym (append_standing (going [] (state_at at_start)) bytes t.0 ∙ ap (λ (x : Standing). standing_from x t.0) h ∙ stuck t.0) ∙ ap standing t.1.3 ∙ r.1 in
    absurd (cc)

-- the first fault is found
abbrev Found : List ℕ → Type 0
Found bytes = IsText bytes ⊎ ((place : ℕ) × IsFault place bytes)

unended : (front : List ℕ) (told : List Item) (s : State) → Holds front told s → ((d : Due) → s ≡ due d → ⊥) → IsFault (length front) front
unended front told s h apart = record {
  within = omega arith;
  before = subst BeginsText (sym (take_all (length front) front (omega arith))) (holds_begins front told s h);
  here = λ lt b. omega arith;
  unfinished = λ e t. let r = text_between front told s h.stands t in apart r.0 r.1;
}

pub stopped : (front : List ℕ) (b : ℕ) (bs : List ℕ) → BeginsText front → standing (front ++ b ∷ []) ≡ no_text → IsFault (length front) (front ++ b ∷ bs)
stopped front b bs t h =
    let many : length (front ++ b ∷ bs) ≡ length front + suc (length bs) = length-append front (b ∷ bs) in
    let one : take (length front + 1) (front ++ b ∷ bs) ≡ front ++ b ∷ [] =
    ap (take (length front + 1)) (sym (append_assoc front (b ∷ []) bs)) ∙ take_at (front ++ b ∷ []) bs (length front + 1) (length_push front b) in
    record {
      within = omega arith;
      before = subst BeginsText (sym (take_at front (b ∷ bs) (length front) refl)) t;
      here = λ lt u. begins_goes (front ++ b ∷ []) (subst BeginsText one u) h;
      unfinished = λ e u. omega arith;
    }

found_end : (front : List ℕ) (told : List Item) (s : State) → Holds front told s → Ready (end_place at_start told) s → Found front
found_end front told s h (between d e is) = inl (whole_text front told d (subst (Holds front told) is h))
found_end front told s h (within apart c) = inr (length front, unended front told s h apart)

found : (bs front : List ℕ) (told : List Item) (s : State) → Holds front told s → Found (front ++ bs)
found [] front told s h = subst Found (sym (append-nil front)) (found_end front told s h (ready (end_place at_start told) s h.inside))
found (b ∷ bs) front told s h = by (next s b) (holds_next front told s b h) (λ (told : List Item) (t : State) g. found bs (front ++ b ∷ []) told t g)
  where
    by : (n : Next) → HoldsNext front told b n → ((told : List Item) (t : State) → Holds (front ++ b ∷ []) told t → Found ((front ++ b ∷ []) ++ bs)) → Found (front ++ b ∷ bs)
    by (more t) g later = subst Found (append_assoc front (b ∷ []) bs) (later told t g)
    by (whole i) g later = subst Found (append_assoc front (b ∷ []) bs) (later (told ++ i ∷ []) (state_at (place_after i)) g)
    by wrong g later = inr (length front, stopped front b bs (holds_begins front told s h) g)

pub text_or_fault : (bytes : List ℕ) → Found bytes
text_or_fault bytes = found bytes [] [] (state_at at_start) holds_first

-- and only one
shorter_begins : (bytes : List ℕ) (m n : ℕ) → m ≤ n → BeginsText (take n bytes) → BeginsText (take m bytes)
shorter_begins bytes m n le b =
    let parts : take n bytes ++ b.0 ≡ take m bytes ++ (drop m (take n bytes) ++ b.0) =
    ap (λ (l : List ℕ). l ++ b.0) (sym (take-append-drop m (take n bytes)) ∙ ap (λ (l : List ℕ). l ++ drop m (take n bytes)) (take-take m n bytes le)) ∙ append_assoc (take m bytes) (drop m (take n bytes)) b.0 in
    (drop m (take n bytes) ++ b.0, subst IsText parts b.1)

pub no_earlier : (bytes : List ℕ) (place later : ℕ) → IsFault place bytes → later ≤ length bytes → BeginsText (take later bytes) → place < later → ⊥
no_earlier bytes place later p le b lt = p.here (omega arith) (shorter_begins bytes (place + 1) later (omega arith) b)

pub never_both : (bytes : List ℕ) (place : ℕ) → IsText bytes → IsFault place bytes → ⊥
never_both bytes place t f =
    let w = f.within in
    elim (cases_lt place (length bytes)) [
      | inl lt ↦ f.here lt (drop (place + 1) bytes, subst IsText (sym (take-append-drop (place + 1) bytes)) t)
      | inr ge ↦ f.unfinished (omega arith) t
    ]

pub one_fault : (bytes : List ℕ) (place other : ℕ) → IsFault place bytes → IsFault other bytes → place ≡ other
one_fault bytes place other p q =
    elim (cases_lt place other) [
      | inl lt ↦ absurd (no_earlier bytes place other p q.within q.before lt)
      | inr le ↦ elim (cases_lt other place) [ inl lt ↦ absurd (no_earlier bytes other place q p.within p.before lt) | inr ge ↦ omega arith ]
    ]

pub one_of_lists : (bytes : List ℕ) (p q : IsText bytes) → (p.0 ≡ q.0) × (p.1 ≡ q.1)
one_of_lists bytes p q = one_text p.0 q.0 p.1 q.1 p.2 q.2 (sym p.3 ∙ q.3)
