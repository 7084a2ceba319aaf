-- From the pieces that a reader keeps and tells to the bytes that it was given.
use Rattle.std.proofs.Common.{◌≡◌, inl, inr, refl, sym, ap, ◌∙◌, subst, ℕ, ◌+◌, List, [], ◌∷◌, ◌++◌, length, true, false, Option, Some, None, arith}
use Rattle.std.specs.Prelude.{flat_map}
use Rattle.std.specs.List.{list_all}
use Rattle.std.proofs.lemmas.Bool.{and_parts, cases_lt}
use Rattle.std.proofs.lemmas.List.{append-nil, take_at, take_all, length_push}
use Rattle.std.proofs.lemmas.List.Folds.{list_all-append}
use Rattle.lemma_text.specs.declared.item.Item.{Item}
use Rattle.lemma_text.specs.declared.reader.Fed.{Fed}
use Rattle.lemma_text.specs.declared.reader.Fed.TheVariants.{More, Whole, Bad}
use Rattle.lemma_text.specs.declared.reader.End.TheVariants.{Whole as WholeEnd, CutShort, Bad as BadEnd}
use Rattle.lemma_text.specs.declared.part.PartNext.{PartNext}
use Rattle.lemma_text.specs.declared.part.PartNext.TheVariants.{More as MorePart, Whole as WholePart, Wrong as WrongPart}
use Rattle.lemma_text.specs.Kept.{state_of, next_of}
use Rattle.lemma_text.specs.Items.{item_text, item_fits}
use Rattle.lemma_text.specs.States.{State, next, at_start, state_at, place_after}
use Rattle.lemma_text.specs.Standing.{Standing, going, no_text, moved, next_standing, standing}
use Rattle.lemma_text.specs.Places.{BeginsText, IsFault}
use Rattle.lemma_text.specs.Telling.{is_between, Tells}
use Rattle.lemma_text.specs.Reader.{tell, standing_of, StandsFor, HasStopped, Says, IsTold, Ends, Goes}
use Rattle.lemma_text.proofs.OneList.{text_stands}
use Rattle.lemma_text.proofs.Faults.{standing_next, nothing_pending, no_earlier}
use Rattle.lemma_text.proofs.Telling.{all_told}

-- what stands so says what is so of the bytes
stood : (kept : Option State) (bytes : List ℕ) (told : List Item) → standing bytes ≡ standing_of told kept → StandsFor kept bytes told
stood kept bytes told h = (h, subst (λ (x : Standing). Tells x bytes) h (all_told bytes))

pub stands_first : StandsFor (Some (state_at at_start)) [] []
stands_first = stood (Some (state_at at_start)) [] [] refl

pub stands : (old new : Option State) (bytes : List ℕ) (told : List Item) (b : ℕ) (fed : Fed) → Goes old b new fed → StandsFor old bytes told → StandsFor new (bytes ++ b ∷ []) (tell told fed)
stands old new bytes told b fed g h =
    stood new (bytes ++ b ∷ []) (tell told fed) (standing_next bytes b ∙ ap (λ (x : Standing). next_standing x b) h.0 ∙ g.0 told)

-- a fault that is reached with this byte
stopped_here : (bytes : List ℕ) (b : ℕ) → Tells no_text (bytes ++ b ∷ []) → HasStopped bytes b
stopped_here bytes b t =
    let many : length (bytes ++ b ∷ []) ≡ length bytes + 1 = length_push bytes b in
    let lt = t.1 in
    record {
      place = t.0;
      within = omega arith;
      is = t.2;
      here = λ begins.
          elim (cases_lt t.0 (length bytes)) [
            | inl early ↦ absurd (no_earlier (bytes ++ b ∷ []) t.0 (length bytes) t.2 (omega arith) (subst BeginsText (sym (take_at bytes (b ∷ []) (length bytes) refl)) begins) early)
            | inr late ↦ omega arith
          ];
    }

last_fits : (told : List Item) (item : Item) → list_all item_fits (told ++ item ∷ []) ≡ true → item_fits item ≡ true
last_fits told item h =
    let both = and_parts (list_all item_fits told) (list_all item_fits (item ∷ [])) (sym (list_all-append item_fits told (item ∷ [])) ∙ h) in
    (and_parts (item_fits item) true both.1).0

pub says : (old new : Option State) (bytes : List ℕ) (told : List Item) (b : ℕ) (fed : Fed) → Goes old b new fed → StandsFor old bytes told → Says bytes told b fed
says old new bytes told b More g h = (subst (λ (k : Option State). StandsFor k (bytes ++ b ∷ []) told) g.1.1 (stands old new bytes told b More g h)).1.begins
says old new bytes told b (Whole item) g h =
    let r = (subst (λ (k : Option State). StandsFor k (bytes ++ b ∷ []) (told ++ item ∷ [])) g.1 (stands old new bytes told b (Whole item) g h)).1 in
    let text = r.text ∙ ap (λ (u : List ℕ). flat_map item_text (told ++ item ∷ []) ++ u) (nothing_pending (place_after item)) ∙ append-nil (flat_map item_text (told ++ item ∷ [])) in
    (r.begins, text, last_fits told item r.fits, r.accepted)
says old new bytes told b Bad g h = stopped_here bytes b (subst (λ (k : Option State). StandsFor k (bytes ++ b ∷ []) told) g.1 (stands old new bytes told b Bad g h)).1

-- where no more bytes come
abbrev told_of : Standing → List Item
told_of (going told s) = told
told_of no_text = []

pub ended_whole : (s : State) (bytes : List ℕ) (told : List Item) → is_between s ≡ true → StandsFor (Some s) bytes told → IsTold bytes told
ended_whole s bytes told e h =
    let t = h.1.ended e in
    let r = text_stands t.0 t.1 t.2 in
    (t.0, t.1, t.2, t.3, ap told_of (sym h.0 ∙ ap standing t.3 ∙ r.1))

pub ended_short : (s : State) (bytes : List ℕ) (told : List Item) → is_between s ≡ false → StandsFor (Some s) bytes told → BeginsText bytes × IsFault (length bytes) bytes
ended_short s bytes told e h = (
  h.1.begins,
  record {
    within = omega arith;
    before = subst BeginsText (sym (take_all (length bytes) bytes (omega arith))) h.1.begins;
    here = λ lt b. omega arith;
    unfinished = λ all t. let clash : false ≡ true = sym e ∙ h.1.unended t in absurd (cc);
  },
)

-- the same of a reader, whose view is what it keeps
pub stands_for : (old given new : Option State) (b : ℕ) (fed : Fed) → given ≡ old → Goes given b new fed → (bytes : List ℕ) (told : List Item) → StandsFor old bytes told → StandsFor new (bytes ++ b ∷ []) (tell told fed)
stands_for old given new b fed e g bytes told h = stands given new bytes told b fed g (subst (λ (k : Option State). StandsFor k bytes told) (sym e) h)

pub says_for : (old given new : Option State) (b : ℕ) (fed : Fed) → given ≡ old → Goes given b new fed → (bytes : List ℕ) (told : List Item) → StandsFor old bytes told → Says bytes told b fed
says_for old given new b fed e g bytes told h = says given new bytes told b fed g (subst (λ (k : Option State). StandsFor k bytes told) (sym e) h)

pub whole_for : (old : Option State) (s : State) → Some s ≡ old → is_between s ≡ true → (bytes : List ℕ) (told : List Item) → StandsFor old bytes told → Ends bytes told WholeEnd
whole_for old s e w bytes told h = ended_whole s bytes told w (subst (λ (k : Option State). StandsFor k bytes told) (sym e) h)

pub short_for : (old : Option State) (s : State) → Some s ≡ old → is_between s ≡ false → (bytes : List ℕ) (told : List Item) → StandsFor old bytes told → Ends bytes told CutShort
short_for old s e w bytes told h = ended_short s bytes told w (subst (λ (k : Option State). StandsFor k bytes told) (sym e) h)

pub bad_for : (old : Option State) → None ≡ old → (bytes : List ℕ) (told : List Item) → StandsFor old bytes told → Ends bytes told BadEnd
bad_for old e bytes told h = (subst (λ (k : Option State). StandsFor k bytes told) (sym e) h).1

-- how what is kept goes on
abbrev pub kept_after : PartNext → Option State
kept_after (MorePart part) = Some (state_of part)
kept_after (WholePart item) = Some (state_at (place_after item))
kept_after WrongPart = None

abbrev pub fed_by : PartNext → Fed
fed_by (MorePart part) = More
fed_by (WholePart item) = Whole item
fed_by WrongPart = Bad

pub goes_on : (s : State) (b : ℕ) (r : PartNext) → next_of r ≡ next s b → Goes (Some s) b (kept_after r) (fed_by r)
goes_on s b (MorePart part) h = (λ told. ap (moved told) (sym h), (state_of part, refl))
goes_on s b (WholePart item) h = (λ told. ap (moved told) (sym h), refl)
goes_on s b WrongPart h = (λ told. ap (moved told) (sym h), refl)

pub goes_nowhere : (b : ℕ) → Goes None b None Bad
goes_nowhere b = (λ told. refl, refl)
