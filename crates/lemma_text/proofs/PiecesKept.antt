-- Values of a piece's fields spell the piece that they come to.
use Rattle.std.proofs.Common.{◌≡◌, refl, sym, ap, ◌∙◌, subst, ℕ, zero, suc, List, [], ◌∷◌, ◌++◌, Bool, true, false, cond, add-one}
use Rattle.std.specs.Prelude.{ℤ, pos, negsuc, nat_le, unsigned_abs}
use Rattle.std.proofs.lemmas.Bool.{and_from, and_parts}
use Rattle.std.proofs.lemmas.List.{append-nil}
use Rattle.proof_tree.specs.Text.{is_place}
use Rattle.lemma_text.specs.declared.parts.Field.{Field}
use Rattle.lemma_text.specs.declared.parts.Field.TheVariants.{Variable, Constraint, Named, Value, Total}
use Rattle.lemma_text.specs.declared.parts.Form.{Form}
use Rattle.lemma_text.specs.declared.parts.Form.TheVariants.{Literal, Sum, CutByConstraint, CutByLemma, Choice, LostToConstraint, LostToLemma, Forgotten}
use Rattle.lemma_text.specs.declared.parts.Due.{Due}
use Rattle.lemma_text.specs.declared.parts.Due.TheVariants.{Entries, Steps, Sums}
use Rattle.lemma_text.specs.Items.{item_text, item_fits}
use Rattle.lemma_text.specs.Numerals.{most, is_signed, is_counted, value_fits}
use Rattle.lemma_text.specs.Pieces.{fields, is_literal, lead, all_fit, tied, end_byte, item_of}
use Rattle.lemma_text.specs.States.{Place, at_start, at_literal, at, place_after, allows}
use Rattle.lemma_text.specs.Unfinished.{allows_form}
use Rattle.lemma_text.proofs.PiecesRead.{three_numbers, four_numbers, two_numbers, last_number}

pub record IsPiece (p : Place) (f : Form) (last : Bool) (ws : List ℤ) : Type 0 where
  pub text : item_text (item_of f ws last) ≡ lead f ++ tied ws (end_byte last)
  pub fits : item_fits (item_of f ws last) ≡ true
  pub allowed : allows p (item_of f ws last) ≡ allows_form p f
  pub after : last ≡ true → (d : Due) × (place_after (item_of f ws last) ≡ at d)

-- values of so many fields
pub none : (ws : List ℤ) → all_fit [] ws ≡ true → ws ≡ []
none [] h = refl
none (w ∷ ws) h = absurd (cc)

pub record One (g : Field) (gs : List Field) (ws : List ℤ) : Type 0 where
  pub v : ℤ
  pub vs : List ℤ
  pub is : ws ≡ v ∷ vs
  pub fits : value_fits g v ≡ true
  pub later : all_fit gs vs ≡ true

pub one : (g : Field) (gs : List Field) (ws : List ℤ) → all_fit (g ∷ gs) ws ≡ true → One g gs ws
one g gs [] h = absurd (cc)
one g gs (w ∷ ws) h = let p = and_parts (value_fits g w) (all_fit gs ws) h in record { v = w; vs = ws; is = refl; fits = p.0; later = p.1 }

-- a number from 1
pub record Count (g : Field) (v : ℤ) : Type 0 where
  pub k : ℕ
  pub is : v ≡ pos (suc k)
  pub fits : is_place (most g) k ≡ true

count_by : (n : ℕ) (v : ℤ) → is_counted n v ≡ true → (k : ℕ) × (v ≡ pos (suc k)) × (is_place n k ≡ true)
count_by n (pos zero) h = absurd (cc)
count_by n (pos (suc k)) h = (k, refl, ap (λ (x : ℕ). nat_le x n) (add-one k) ∙ h)
count_by n (negsuc k) h = absurd (cc)

pub count : (g : Field) (v : ℤ) → is_signed g ≡ false → value_fits g v ≡ true → Count g v
count g v s h =
    let c = count_by (most g) v (sym (ap (λ (t : Bool). cond t (nat_le (unsigned_abs v) (most g)) (is_counted (most g) v)) s) ∙ h) in
    record { k = c.0; is = c.1; fits = c.2 }

ended : (u : List ℕ) (v : List ℕ) → u ++ [] ≡ v → u ≡ v
ended u v h = sym (append-nil u) ∙ h

literal_piece : (p : Place) (last : Bool) (k : ℕ) (low high : ℤ) → is_place 500 k ≡ true → value_fits Value low ≡ true → value_fits Value high ≡ true → IsPiece p Literal last (pos (suc k) ∷ low ∷ high ∷ [])
literal_piece p true k low high f g h = record {
  text = ended _ _ (three_numbers k low high 10 []);
  fits = and_from _ _ (and_from _ _ f g) h;
  allowed = by_place p;
  after = λ e. (Sums, refl);
}
  where
    by_place : (p : Place) → allows p (item_of Literal (pos (suc k) ∷ low ∷ high ∷ []) true) ≡ allows_form p Literal
    by_place at_start = refl
    by_place at_literal = refl
    by_place (at d) = refl
literal_piece p false k low high f g h = record {
  text = ended _ _ (three_numbers k low high 32 []);
  fits = and_from _ _ (and_from _ _ f g) h;
  allowed = by_place p;
  after = λ e. absurd (cc);
}
  where
    by_place : (p : Place) → allows p (item_of Literal (pos (suc k) ∷ low ∷ high ∷ []) false) ≡ allows_form p Literal
    by_place at_start = refl
    by_place at_literal = refl
    by_place (at d) = refl

sum_piece : (p : Place) (k : ℕ) (low high : ℤ) → is_place 20000 k ≡ true → value_fits Total low ≡ true → value_fits Total high ≡ true → IsPiece p Sum true (pos (suc k) ∷ low ∷ high ∷ [])
sum_piece p k low high f g h = record {
  text = ap (λ (u : List ℕ). 117 ∷ 32 ∷ u) (ended _ _ (three_numbers k low high 10 []));
  fits = and_from _ _ (and_from _ _ f g) h;
  allowed = by_place p;
  after = λ e. (Sums, refl);
}
  where
    by_place : (p : Place) → allows p (item_of Sum (pos (suc k) ∷ low ∷ high ∷ []) true) ≡ allows_form p Sum
    by_place at_start = refl
    by_place at_literal = refl
    by_place (at d) = refl

cut_piece : (p : Place) (k : ℕ) (low high : ℤ) (c : ℕ) → is_place 500 k ≡ true → value_fits Value low ≡ true → value_fits Value high ≡ true → is_place 20000 c ≡ true
    → IsPiece p CutByConstraint true (pos (suc k) ∷ low ∷ high ∷ pos (suc c) ∷ [])
cut_piece p k low high c f g h i = record {
  text = ap (λ (u : List ℕ). 112 ∷ 32 ∷ u) (ended _ _ (four_numbers k low high c []));
  fits = and_from _ _ (and_from _ _ (and_from _ _ f g) h) i;
  allowed = by_place p;
  after = λ e. (Steps, refl);
}
  where
    by_place : (p : Place) → allows p (item_of CutByConstraint (pos (suc k) ∷ low ∷ high ∷ pos (suc c) ∷ []) true) ≡ allows_form p CutByConstraint
    by_place at_start = refl
    by_place at_literal = refl
    by_place (at d) = refl

cut_by_lemma : (p : Place) (k : ℕ) (low high : ℤ) (n : ℕ) → is_place 500 k ≡ true → value_fits Value low ≡ true → value_fits Value high ≡ true → is_place 4294967296 n ≡ true
    → IsPiece p CutByLemma true (pos (suc k) ∷ low ∷ high ∷ pos (suc n) ∷ [])
cut_by_lemma p k low high n f g h i = record {
  text = ap (λ (u : List ℕ). 113 ∷ 32 ∷ u) (ended _ _ (four_numbers k low high n []));
  fits = and_from _ _ (and_from _ _ (and_from _ _ f g) h) i;
  allowed = by_place p;
  after = λ e. (Steps, refl);
}
  where
    by_place : (p : Place) → allows p (item_of CutByLemma (pos (suc k) ∷ low ∷ high ∷ pos (suc n) ∷ []) true) ≡ allows_form p CutByLemma
    by_place at_start = refl
    by_place at_literal = refl
    by_place (at d) = refl

choice_piece : (p : Place) (k : ℕ) (v : ℤ) → is_place 500 k ≡ true → value_fits Value v ≡ true → IsPiece p Choice true (pos (suc k) ∷ v ∷ [])
choice_piece p k v f g = record {
  text = ap (λ (u : List ℕ). 99 ∷ 32 ∷ u) (ended _ _ (two_numbers k v []));
  fits = and_from _ _ f g;
  allowed = by_place p;
  after = λ e. (Steps, refl);
}
  where
    by_place : (p : Place) → allows p (item_of Choice (pos (suc k) ∷ v ∷ []) true) ≡ allows_form p Choice
    by_place at_start = refl
    by_place at_literal = refl
    by_place (at d) = refl

lost_piece : (p : Place) (k : ℕ) → is_place 20000 k ≡ true → IsPiece p LostToConstraint true (pos (suc k) ∷ [])
lost_piece p k f = record {
  text = ap (λ (u : List ℕ). 102 ∷ 32 ∷ u) (ended _ _ (last_number k []));
  fits = f;
  allowed = by_place p;
  after = λ e. (Entries, refl);
}
  where
    by_place : (p : Place) → allows p (item_of LostToConstraint (pos (suc k) ∷ []) true) ≡ allows_form p LostToConstraint
    by_place at_start = refl
    by_place at_literal = refl
    by_place (at d) = refl

lost_to_lemma : (p : Place) (k : ℕ) → is_place 4294967296 k ≡ true → IsPiece p LostToLemma true (pos (suc k) ∷ [])
lost_to_lemma p k f = record {
  text = ap (λ (u : List ℕ). 97 ∷ 32 ∷ u) (ended _ _ (last_number k []));
  fits = f;
  allowed = by_place p;
  after = λ e. (Entries, refl);
}
  where
    by_place : (p : Place) → allows p (item_of LostToLemma (pos (suc k) ∷ []) true) ≡ allows_form p LostToLemma
    by_place at_start = refl
    by_place at_literal = refl
    by_place (at d) = refl

forgotten_piece : (p : Place) (k : ℕ) → is_place 4294967296 k ≡ true → IsPiece p Forgotten true (pos (suc k) ∷ [])
forgotten_piece p k f = record {
  text = ap (λ (u : List ℕ). 100 ∷ 32 ∷ u) (ended _ _ (last_number k []));
  fits = f;
  allowed = by_place p;
  after = λ e. (Entries, refl);
}
  where
    by_place : (p : Place) → allows p (item_of Forgotten (pos (suc k) ∷ []) true) ≡ allows_form p Forgotten
    by_place at_start = refl
    by_place at_literal = refl
    by_place (at d) = refl

-- the shapes of the values
one_is : (v : ℤ) (vs ws : List ℤ) (k : ℕ) → ws ≡ v ∷ vs → v ≡ pos (suc k) → vs ≡ [] → ws ≡ pos (suc k) ∷ []
one_is v vs ws k h g e = h ∙ ap (λ (x : ℤ). x ∷ vs) g ∙ ap (λ (t : List ℤ). pos (suc k) ∷ t) e

pub record Single (g : Field) (ws : List ℤ) : Type 0 where
  pub k : ℕ
  pub is : ws ≡ pos (suc k) ∷ []
  pub fits : is_place (most g) k ≡ true

pub single : (g : Field) (ws : List ℤ) → is_signed g ≡ false → all_fit (g ∷ []) ws ≡ true → Single g ws
single g ws s h =
    let a = one g [] ws h in
    let c = count g a.v s a.fits in
    record { k = c.k; is = one_is a.v a.vs ws c.k a.is c.is (none a.vs a.later); fits = c.fits }

pub record Front (g : Field) (gs : List Field) (ws : List ℤ) : Type 0 where
  pub k : ℕ
  pub vs : List ℤ
  pub is : ws ≡ pos (suc k) ∷ vs
  pub fits : is_place (most g) k ≡ true
  pub later : all_fit gs vs ≡ true

pub front : (g : Field) (gs : List Field) (ws : List ℤ) → is_signed g ≡ false → all_fit (g ∷ gs) ws ≡ true → Front g gs ws
front g gs ws s h =
    let a = one g gs ws h in
    let c = count g a.v s a.fits in
    record { k = c.k; vs = a.vs; is = a.is ∙ ap (λ (x : ℤ). x ∷ a.vs) c.is; fits = c.fits; later = a.later }

pub record Triple (g h i : Field) (gs : List Field) (ws : List ℤ) : Type 0 where
  pub k : ℕ
  pub low : ℤ
  pub high : ℤ
  pub vs : List ℤ
  pub is : ws ≡ pos (suc k) ∷ low ∷ high ∷ vs
  pub fits : is_place (most g) k ≡ true
  pub low_fits : value_fits h low ≡ true
  pub high_fits : value_fits i high ≡ true
  pub later : all_fit gs vs ≡ true

pub triple : (g h i : Field) (gs : List Field) (ws : List ℤ) → is_signed g ≡ false → all_fit (g ∷ h ∷ i ∷ gs) ws ≡ true → Triple g h i gs ws
triple g h i gs ws s e =
    let a = front g (h ∷ i ∷ gs) ws s e in
    let b = one h (i ∷ gs) a.vs a.later in
    let c = one i gs b.vs b.later in
    record {
      k = a.k;
      low = b.v;
      high = c.v;
      vs = c.vs;
      is = a.is ∙ ap (λ (t : List ℤ). pos (suc a.k) ∷ t) (b.is ∙ ap (λ (t : List ℤ). b.v ∷ t) c.is);
      fits = a.fits;
      low_fits = b.fits;
      high_fits = c.fits;
      later = c.later;
    }

-- only a literal may be followed by another
pub is_piece : (p : Place) (f : Form) (last : Bool) (ws : List ℤ) → all_fit (fields f) ws ≡ true → (is_literal f ≡ false → last ≡ true) → IsPiece p f last ws
is_piece p Literal last ws h e =
    let t = triple Variable Value Value [] ws refl h in
    subst (IsPiece p Literal last) (sym (t.is ∙ ap (λ (vs : List ℤ). pos (suc t.k) ∷ t.low ∷ t.high ∷ vs) (none t.vs t.later))) (literal_piece p last t.k t.low t.high t.fits t.low_fits t.high_fits)
is_piece p Sum last ws h e =
    let t = triple Constraint Total Total [] ws refl h in
    subst (λ (b : Bool). IsPiece p Sum b ws) (sym (e refl))
    (subst (IsPiece p Sum true) (sym (t.is ∙ ap (λ (vs : List ℤ). pos (suc t.k) ∷ t.low ∷ t.high ∷ vs) (none t.vs t.later))) (sum_piece p t.k t.low t.high t.fits t.low_fits t.high_fits))
is_piece p CutByConstraint last ws h e =
    let t = triple Variable Value Value (Constraint ∷ []) ws refl h in
    let c = single Constraint t.vs refl t.later in
    subst (λ (b : Bool). IsPiece p CutByConstraint b ws) (sym (e refl))
    (subst (IsPiece p CutByConstraint true) (sym (t.is ∙ ap (λ (vs : List ℤ). pos (suc t.k) ∷ t.low ∷ t.high ∷ vs) c.is)) (cut_piece p t.k t.low t.high c.k t.fits t.low_fits t.high_fits c.fits))
is_piece p CutByLemma last ws h e =
    let t = triple Variable Value Value (Named ∷ []) ws refl h in
    let c = single Named t.vs refl t.later in
    subst (λ (b : Bool). IsPiece p CutByLemma b ws) (sym (e refl))
    (subst (IsPiece p CutByLemma true) (sym (t.is ∙ ap (λ (vs : List ℤ). pos (suc t.k) ∷ t.low ∷ t.high ∷ vs) c.is)) (cut_by_lemma p t.k t.low t.high c.k t.fits t.low_fits t.high_fits c.fits))
is_piece p Choice last ws h e =
    let a = front Variable (Value ∷ []) ws refl h in
    let b = one Value [] a.vs a.later in
    subst (λ (b : Bool). IsPiece p Choice b ws) (sym (e refl))
    (subst (IsPiece p Choice true) (sym (a.is ∙ ap (λ (t : List ℤ). pos (suc a.k) ∷ t) (b.is ∙ ap (λ (t : List ℤ). b.v ∷ t) (none b.vs b.later)))) (choice_piece p a.k b.v a.fits b.fits))
is_piece p LostToConstraint last ws h e =
    let s = single Constraint ws refl h in
    subst (λ (b : Bool). IsPiece p LostToConstraint b ws) (sym (e refl)) (subst (IsPiece p LostToConstraint true) (sym s.is) (lost_piece p s.k s.fits))
is_piece p LostToLemma last ws h e =
    let s = single Named ws refl h in
    subst (λ (b : Bool). IsPiece p LostToLemma b ws) (sym (e refl)) (subst (IsPiece p LostToLemma true) (sym s.is) (lost_to_lemma p s.k s.fits))
is_piece p Forgotten last ws h e =
    let s = single Named ws refl h in
    subst (λ (b : Bool). IsPiece p Forgotten b ws) (sym (e refl)) (subst (IsPiece p Forgotten true) (sym s.is) (forgotten_piece p s.k s.fits))
