-- Lines and values that are read at once are the pieces with which the bytes begin.
use Rattle.std.proofs.Common.{◌≡◌, refl, sym, ap, ◌∙◌, subst, ℕ, List, [], ◌∷◌, ◌++◌, Bool, true, false, ◌&&◌, ◌||◌, cond, Some, None, append_assoc}
use Rattle.std.specs.Prelude.{ℤ, nat_eq}
use Rattle.std.specs.Fmt.{signed_decimal}
use Rattle.std.proofs.lemmas.Bool.{and_from, eqb-true}
use Rattle.qc_model.specs.declared.problem.VarId.{VarId}
use Rattle.lemma_text.specs.declared.parts.Field.{Field}
use Rattle.lemma_text.specs.declared.parts.Field.TheVariants.{Variable, Node as NodeField, Value as ValueField}
use Rattle.lemma_text.specs.declared.parts.Numeral.{Numeral}
use Rattle.lemma_text.specs.Numerals.{further, ended, reading, numeral_text, FitsNumeral}
use Rattle.lemma_text.specs.Items.{end_text}
use Rattle.lemma_text.specs.Pieces.{all_fit, tied}
use Rattle.lemma_text.specs.Asked.{counted}
use Rattle.lemma_text.proofs.NumbersKept.{ReadingKept, reading_kept}
use Rattle.dense_text.specs.declared.piece.Tuple.{Tuple}
use Rattle.dense_text.specs.declared.piece.Tuple.TheVariants.{Given as GivenTuple, Reply as ReplyTuple, Chosen as ChosenTuple}
use Rattle.dense_text.specs.declared.piece.Piece.{Piece}
use Rattle.dense_text.specs.declared.piece.Piece.TheVariants.{Reply, Chosen, Value, Branch, Again, Bound, Range}
use Rattle.dense_text.specs.declared.parts.Due.{Due}
use Rattle.dense_text.specs.declared.parts.Form.{Form}
use Rattle.dense_text.specs.declared.parts.Form.TheVariants.{ValueOf, AgainLine, BoundLine, ReplyLine, ChosenLine, BranchLine, RangeLine}
use Rattle.dense_text.specs.Forms.{letter, fields, piece_of}
use Rattle.dense_text.specs.Grammar.{at_value, at, is_same}
use Rattle.dense_text.specs.States.{may, valued, whole, wrong}
use Rattle.dense_text.specs.WholeLines.{short_lines, short_piece, ReadsNumber, BeginsWith}
use Rattle.dense_text.proofs.Letters.{line_stem}
use Rattle.dense_text.proofs.NumbersRead.{after_stem}
use Rattle.dense_text.proofs.PiecesKept.{is_piece}
use Rattle.dense_text.proofs.PiecesRead.{spelled_is}

-- a line by its form and its numbers
begins : (d : Due) (f : Form) (ws : List ℤ) (rest : List ℕ) → may d f ≡ true → all_fit (fields f) ws ≡ true → BeginsWith (at d) (piece_of f ws true) (letter f ∷ (after_stem ws 10 ++ rest)) rest
begins d f ws rest m h =
    let k = is_piece (at d) f true ws h (λ e. refl) in
    let l = line_stem d f m in
    record {
      text = sym (ap (λ (u : List ℕ). u ++ rest) k.text ∙ spelled_is f ws 10 rest l.0 ∙ ap (λ (u : List ℕ). u ++ (after_stem ws 10 ++ rest)) l.1);
      fits = k.fits;
      allowed = k.allowed ∙ m;
    }

-- lines that have no number
abbrev AreShort : List Form → Type 0
AreShort [] = Unit {0}
AreShort (f ∷ fs) = (fields f ≡ []) × AreShort fs

are_short : AreShort short_lines
are_short = (refl, (refl, (refl, (refl, (refl, (refl, (refl, (refl, (refl, (refl, (refl, tt)))))))))))

one_short : (d : Due) (f : Form) (b : ℕ) (i : Piece) (rest : List ℕ) → fields f ≡ [] → nat_eq b (letter f) ≡ true → cond (may d f) (Some (piece_of f [] true)) None ≡ Some i → BeginsWith (at d) i (b ∷ 10 ∷ rest) rest
one_short d f b i rest e l h = by (may d f) refl h
  where
    same : (x y : Piece) → Some x ≡ Some y → x ≡ y
    same x y q = cc

    by : (t : Bool) → may d f ≡ t → cond t (Some (piece_of f [] true)) None ≡ Some i → BeginsWith (at d) i (b ∷ 10 ∷ rest) rest
    by true m q =
        subst (λ (j : Piece). BeginsWith (at d) j (b ∷ 10 ∷ rest) rest) (same (piece_of f [] true) i q)
        (subst (λ (c : ℕ). BeginsWith (at d) (piece_of f [] true) (c ∷ 10 ∷ rest) rest) (sym (eqb-true b (letter f) l)) (begins d f [] rest m (ap (λ (gs : List Field). all_fit gs []) e)))
    by false m q = absurd (cc)

some_short : (d : Due) (fs : List Form) (b : ℕ) (i : Piece) (rest : List ℕ) → AreShort fs → short_piece d fs b ≡ Some i → BeginsWith (at d) i (b ∷ 10 ∷ rest) rest
some_short d [] b i rest a h = absurd (cc)
some_short d (f ∷ fs) b i rest a h = by (nat_eq b (letter f)) refl (λ q. some_short d fs b i rest a.1 q) h
  where
    by : (t : Bool) → nat_eq b (letter f) ≡ t → (short_piece d fs b ≡ Some i → BeginsWith (at d) i (b ∷ 10 ∷ rest) rest) → cond t (cond (may d f) (Some (piece_of f [] true)) None) (short_piece d fs b) ≡ Some i
        → BeginsWith (at d) i (b ∷ 10 ∷ rest) rest
    by true l later q = one_short d f b i rest a.0 l q
    by false l later q = later q

-- the line that is a letter alone
pub short_begins : (d : Due) (b second : ℕ) (i : Piece) (bytes text rest : List ℕ) → bytes ≡ b ∷ text → text ≡ second ∷ rest → second ≡ 10 → short_piece d short_lines b ≡ Some i → BeginsWith (at d) i bytes rest
short_begins d b second i bytes text rest e g n h =
    subst (λ (u : List ℕ). BeginsWith (at d) i u rest) (sym (e ∙ ap (λ (u : List ℕ). b ∷ u) (g ∙ ap (λ (c : ℕ). c ∷ rest) n))) (some_short d short_lines b i rest are_short h)

-- the same bytes
pub same_bytes : (d : Due) (b second : ℕ) (i : Piece) (bytes text left rest : List ℕ) → bytes ≡ b ∷ text → text ≡ second ∷ left → second ≡ 32 → BeginsWith (at d) i (b ∷ 32 ∷ left) rest → BeginsWith (at d) i bytes rest
same_bytes d b second i bytes text left rest e g n h =
    subst (λ (u : List ℕ). BeginsWith (at d) i u rest) (sym (e ∙ ap (λ (u : List ℕ). b ∷ u) (g ∙ ap (λ (c : ℕ). c ∷ left) n))) h

-- a line of one number
one_begins : (d : Due) (f : Form) (g : Field) (z : ℤ) (bytes rest : List ℕ) → may d f ≡ true → fields f ≡ g ∷ [] → ReadsNumber g 10 bytes z rest → BeginsWith (at d) (piece_of f (z ∷ []) true) (letter f ∷ 32 ∷ bytes) rest
one_begins d f g z bytes rest m e r =
    subst (λ (u : List ℕ). BeginsWith (at d) (piece_of f (z ∷ []) true) (letter f ∷ 32 ∷ u) rest) (append_assoc (signed_decimal z) (10 ∷ []) rest ∙ sym r.text)
    (begins d f (z ∷ []) rest m (ap (λ (gs : List Field). all_fit gs (z ∷ [])) e ∙ and_from _ _ r.fits refl))

pub branch_begins : (d : Due) (x : VarId) (z : ℤ) (bytes rest : List ℕ) → may d BranchLine ≡ true → counted x.0 ≡ z → ReadsNumber Variable 10 bytes z rest → BeginsWith (at d) (Branch x) (118 ∷ 32 ∷ bytes) rest
branch_begins d x z bytes rest m e r = one_begins d BranchLine Variable (counted x.0) bytes rest m refl (subst (λ (w : ℤ). ReadsNumber Variable 10 bytes w rest) (sym e) r)

pub again_begins : (d : Due) (n : ℕ) (z : ℤ) (bytes rest : List ℕ) → may d AgainLine ≡ true → counted n ≡ z → ReadsNumber NodeField 10 bytes z rest → BeginsWith (at d) (Again n) (97 ∷ 32 ∷ bytes) rest
again_begins d n z bytes rest m e r = one_begins d AgainLine NodeField (counted n) bytes rest m refl (subst (λ (w : ℤ). ReadsNumber NodeField 10 bytes w rest) (sym e) r)

pub range_begins : (d : Due) (high : ℤ) (bytes rest : List ℕ) → may d RangeLine ≡ true → ReadsNumber ValueField 10 bytes high rest → BeginsWith (at d) (Range high) (114 ∷ 32 ∷ bytes) rest
range_begins d high bytes rest m r = one_begins d RangeLine ValueField high bytes rest m refl r

-- a line of three numbers
three_tied : (x low high : ℤ) (bytes left beyond rest : List ℕ) → bytes ≡ signed_decimal x ++ 32 ∷ left → left ≡ signed_decimal low ++ 32 ∷ beyond → beyond ≡ signed_decimal high ++ 10 ∷ rest
    → tied (x ∷ low ∷ high ∷ []) 10 ++ rest ≡ bytes
three_tied x low high bytes left beyond rest e g h =
    let last : tied (high ∷ []) 10 ++ rest ≡ beyond = append_assoc (signed_decimal high) (10 ∷ []) rest ∙ sym h in
    let second : tied (low ∷ high ∷ []) 10 ++ rest ≡ left = append_assoc (signed_decimal low) (32 ∷ tied (high ∷ []) 10) rest ∙ ap (λ (u : List ℕ). signed_decimal low ++ 32 ∷ u) last ∙ sym g in
    append_assoc (signed_decimal x) (32 ∷ tied (low ∷ high ∷ []) 10) rest ∙ ap (λ (u : List ℕ). signed_decimal x ++ 32 ∷ u) second ∙ sym e

pub bound_begins : (d : Due) (x : VarId) (z low high : ℤ) (bytes left beyond rest : List ℕ) → may d BoundLine ≡ true → counted x.0 ≡ z → ReadsNumber Variable 32 bytes z left → ReadsNumber ValueField 32 left low beyond
    → ReadsNumber ValueField 10 beyond high rest → BeginsWith (at d) (Bound x low high) (98 ∷ 32 ∷ bytes) rest
bound_begins d x z low high bytes left beyond rest m e first second third =
    let r = subst (λ (w : ℤ). ReadsNumber Variable 32 bytes w left) (sym e) first in
    subst (λ (u : List ℕ). BeginsWith (at d) (Bound x low high) (98 ∷ 32 ∷ u) rest) (three_tied (counted x.0) low high bytes left beyond rest r.text second.text third.text)
    (begins d BoundLine (counted x.0 ∷ low ∷ high ∷ []) rest m (and_from _ _ r.fits (and_from _ _ second.fits (and_from _ _ third.fits refl))))

-- a byte more of a number
pub digit_fits : (g : Field) (n m : Numeral) (b : ℕ) → FitsNumeral g n → further m ≡ reading g n b → FitsNumeral g m
digit_fits g n m b fits f = (subst (ReadingKept g n b) (sym f) (reading_kept g n b fits)).0

pub digit_read : (g : Field) (n m : Numeral) (b : ℕ) (bytes rest after : List ℕ) → FitsNumeral g n → further m ≡ reading g n b → rest ≡ b ∷ after → bytes ≡ numeral_text n ++ rest → bytes ≡ numeral_text m ++ after
digit_read g n m b bytes rest after fits f e text =
    let k = subst (ReadingKept g n b) (sym f) (reading_kept g n b fits) in
    text ∙ ap (λ (u : List ℕ). numeral_text n ++ u) e ∙ sym (append_assoc (numeral_text n) (b ∷ []) after) ∙ ap (λ (u : List ℕ). u ++ after) (sym k.1)

-- the byte that ends it
pub number_ends : (g : Field) (n : Numeral) (z : ℤ) (b end : ℕ) (bytes rest after : List ℕ) → FitsNumeral g n → ended z ≡ reading g n b → rest ≡ b ∷ after → b ≡ end → bytes ≡ numeral_text n ++ rest → ReadsNumber g end bytes z after
number_ends g n z b end bytes rest after fits f e same text =
    let k = subst (ReadingKept g n b) (sym f) (reading_kept g n b fits) in
    record {
      text = text ∙ ap (λ (u : List ℕ). numeral_text n ++ u) (e ∙ ap (λ (c : ℕ). c ∷ after) same) ∙ ap (λ (u : List ℕ). u ++ end ∷ after) k.1;
      fits = k.0;
    }

-- the beginning of a tuple's line
pub reply_begins : (d : Due) (bytes : List ℕ) → may d ReplyLine ≡ true → BeginsWith (at d) (Reply false) (102 ∷ 32 ∷ bytes) bytes
reply_begins d bytes m = record { text = refl; fits = refl; allowed = m }

pub chosen_begins : (d : Due) (bytes : List ℕ) → may d ChosenLine ≡ true → BeginsWith (at d) (Chosen false) (119 ∷ 32 ∷ bytes) bytes
chosen_begins d bytes m = record { text = refl; fits = refl; allowed = m }

-- a value of a tuple: the byte after it says whether another comes
same_tuple : (u : Tuple) → is_same u u ≡ true
same_tuple GivenTuple = refl
same_tuple ReplyTuple = refl
same_tuple ChosenTuple = refl

one_value : (u : Tuple) (z : ℤ) (last : Bool) (b : ℕ) (bytes rest : List ℕ) → b ∷ [] ≡ end_text last → ReadsNumber ValueField b bytes z rest → BeginsWith (at_value u) (Value u z last) bytes rest
one_value u z last b bytes rest e r = record {
  text = r.text ∙ sym (append_assoc (signed_decimal z) (b ∷ []) rest) ∙ ap (λ (t : List ℕ). (signed_decimal z ++ t) ++ rest) e;
  fits = r.fits;
  allowed = same_tuple u;
}

pub value_begins : (u : Tuple) (z : ℤ) (b : ℕ) (i : Piece) (bytes rest : List ℕ) → ReadsNumber ValueField b bytes z rest → whole i ≡ valued (ValueOf u) (z ∷ []) [] b → BeginsWith (at_value u) i bytes rest
value_begins u z b i bytes rest r h = by (nat_eq b 10) (nat_eq b 32) refl refl h
  where
    same : (x y : Piece) → whole x ≡ whole y → y ≡ x
    same x y q = cc

    ends : (last : Bool) (e : ℕ) → nat_eq b e ≡ true → e ∷ [] ≡ end_text last → whole i ≡ whole (Value u z last) → BeginsWith (at_value u) i bytes rest
    ends last e l t q =
        subst (λ (j : Piece). BeginsWith (at_value u) j bytes rest) (same i (Value u z last) q)
        (one_value u z last b bytes rest (ap (λ (c : ℕ). c ∷ []) (eqb-true b e l) ∙ t) r)

    by : (t s : Bool) → nat_eq b 10 ≡ t → nat_eq b 32 ≡ s → whole i ≡ cond (t || (true && s)) (whole (Value u z t)) wrong → BeginsWith (at_value u) i bytes rest
    by true s l k q = ends true 10 l refl q
    by false true l k q = ends false 32 k refl q
    by false false l k q = absurd (cc)
