-- What is read of a piece is its text so far, and it can be ended.
use Rattle.std.proofs.Common.{◌≡◌, refl, sym, ap, ◌∙◌, subst, ℕ, zero, suc, ◌+◌, ◌≤◌, ◌<◌, List, [], ◌∷◌, ◌++◌, take, drop, get_or, length, Bool, true, false, ◌||◌, ◌&&◌, cond, None, arith, append_assoc, take-append-drop}
use Rattle.std.specs.Prelude.{ℤ, pos, nat_eq, nat_lt, codes}
use Rattle.std.specs.Fmt.{signed_decimal}
use Rattle.std.proofs.lemmas.Bool.{and_from, and_parts, eqb-true, ltb-true, ltb-false}
use Rattle.std.proofs.lemmas.List.{append-nil, take_more, take_all}
use Rattle.proof_tree.specs.declared.tree.Outcome.TheVariants.{True as TrueOutcome, False as FalseOutcome, Open as OpenOutcome}
use Rattle.lemma_text.specs.declared.parts.Field.{Field}
use Rattle.lemma_text.specs.declared.parts.Field.TheVariants.{Value as ValueField, Total}
use Rattle.lemma_text.specs.declared.parts.Numeral.{Numeral}
use Rattle.lemma_text.specs.declared.parts.Numeral.TheVariants.{Start}
use Rattle.lemma_text.specs.Numerals.{value_fits, Reading, further, ended, bad, reading, numeral_text, FitsNumeral}
use Rattle.lemma_text.specs.Pieces.{all_fit, tied, end_byte}
use Rattle.lemma_text.specs.Unfinished.{spaced}
use Rattle.lemma_text.proofs.NumbersKept.{letter_is, ReadingKept, reading_kept, ends}
use Rattle.lemma_text.proofs.StatesKept.{spaced_push, tied_more, ones, ones_fit}
use Rattle.dense_text.specs.declared.piece.Piece.{Piece}
use Rattle.dense_text.specs.declared.piece.Piece.TheVariants.{Head}
use Rattle.dense_text.specs.declared.parts.Form.{Form}
use Rattle.dense_text.specs.declared.parts.Form.TheVariants.{Optimum, Turns, ValueOf}
use Rattle.dense_text.specs.declared.parts.Word.{Word}
use Rattle.dense_text.specs.declared.parts.Word.TheVariants.{Name, True, False, Open}
use Rattle.dense_text.specs.declared.parts.Due.{Due}
use Rattle.dense_text.specs.Pieces.{piece_text, piece_fits}
use Rattle.dense_text.specs.Forms.{letter, all_lines, is_value, stem, lead, fields, may_go_on, piece_of, spelled}
use Rattle.dense_text.specs.Grammar.{Place, at_start, at_value, at, allows}
use Rattle.dense_text.specs.States.{State, word, outcome, won, due, lettered, number, After, more, whole, wrong, word_text, word_end, word_next, outcome_next, won_next, may, line_next, is_end, valued, read_by, number_next, next, state_at}
use Rattle.dense_text.specs.Unfinished.{before_word, pending, allows_form, GoesWith, Inside}
use Rattle.dense_text.proofs.Letters.{line_stem}
use Rattle.dense_text.proofs.Whole.{same_is}
use Rattle.dense_text.proofs.PiecesKept.{is_piece}

-- what a byte leads to
pub record IsWholePiece (p : Place) (s : State) (b : ℕ) (i : Piece) : Type 0 where
  pub allowed : allows p i ≡ true
  pub fits : piece_fits i ≡ true
  pub text : piece_text i ≡ pending s ++ b ∷ []

abbrev pub Kept : Place → State → ℕ → After → Type 0
Kept p s b (more t) = Inside p t × (pending t ≡ pending s ++ b ∷ [])
Kept p s b (whole i) = IsWholePiece p s b i
Kept p s b wrong = Unit {0}

by_test : (p : Place) (s : State) (b : ℕ) (t : Bool) (x y : After) → (t ≡ true → Kept p s b x) → (t ≡ false → Kept p s b y) → Kept p s b (cond t x y)
by_test p s b true x y f h = f refl
by_test p s b false x y f h = h refl

-- letters of the first lines
word_more : (w : Word) (read b : ℕ) → read < length (word_text w) → b ≡ get_or (word_text w) read 0 → before_word w ++ take (read + 1) (word_text w) ≡ (before_word w ++ take read (word_text w)) ++ b ∷ []
word_more w read b lt e =
    ap (λ (u : List ℕ). before_word w ++ u) (take_more (word_text w) read 0 lt ∙ ap (λ (x : ℕ). take read (word_text w) ++ x ∷ []) (sym e))
    ∙ sym (append_assoc (before_word w) (take read (word_text w)) (b ∷ []))

word_done : (w : Word) (read b : ℕ) → read < length (word_text w) → length (word_text w) ≤ read + 1 → b ≡ get_or (word_text w) read 0 → before_word w ++ word_text w ≡ (before_word w ++ take read (word_text w)) ++ b ∷ []
word_done w read b lt le e = ap (λ (u : List ℕ). before_word w ++ u) (sym (take_all (read + 1) (word_text w) le)) ∙ word_more w read b lt e

word_ended : (p : Place) (w : Word) (read b : ℕ) → p ≡ at_start → before_word w ++ word_text w ≡ (before_word w ++ take read (word_text w)) ++ b ∷ [] → Kept p (word w read) b (word_end w)
word_ended p Name read b h e = (h, e)
word_ended p True read b h e = (h, e)
word_ended p False read b h e = record { allowed = ap (λ (q : Place). allows q (Head FalseOutcome None)) h; fits = refl; text = e }
word_ended p Open read b h e = ((refl, ap (λ (q : Place). allows_form q Turns) h), e)

word_kept : (p : Place) (w : Word) (read b : ℕ) → p ≡ at_start → read < length (word_text w) → Kept p (word w read) b (word_next w read b)
word_kept p w read b h lt =
    by_test p (word w read) b (nat_eq b (get_or (word_text w) read 0)) (cond (nat_lt (read + 1) (length (word_text w))) (more (word w (read + 1))) (word_end w)) wrong
    (λ e.
    let is = eqb-true b (get_or (word_text w) read 0) e in
    by_test p (word w read) b (nat_lt (read + 1) (length (word_text w))) (more (word w (read + 1))) (word_end w)
    (λ t. ((h, ltb-true (read + 1) (length (word_text w)) t), word_more w read b lt is))
    (λ t. word_ended p w read b h (word_done w read b lt (ltb-false (read + 1) (length (word_text w)) t) is)))
    (λ e. tt)

outcome_kept : (p : Place) (b : ℕ) → p ≡ at_start → Kept p outcome b (outcome_next b)
outcome_kept p b h =
    by_test p outcome b (nat_eq b 116) (more (word True 1)) (cond (nat_eq b 102) (more (word False 1)) (cond (nat_eq b 111) (more (word Open 1)) wrong))
    (λ e. ((h, omega arith), ap (λ (u : List ℕ). codes "qcert 4\n" ++ u) (letter_is b 116 e)))
    (λ e. by_test p outcome b (nat_eq b 102) (more (word False 1)) (cond (nat_eq b 111) (more (word Open 1)) wrong)
    (λ e. ((h, omega arith), ap (λ (u : List ℕ). codes "qcert 4\n" ++ u) (letter_is b 102 e)))
    (λ e. by_test p outcome b (nat_eq b 111) (more (word Open 1)) wrong (λ e. ((h, omega arith), ap (λ (u : List ℕ). codes "qcert 4\n" ++ u) (letter_is b 111 e))) (λ e. tt)))

-- the first of a piece's fields
number_begins : (p : Place) (f : Form) (g : Field) (gs : List Field) → fields f ≡ g ∷ gs → allows_form p f ≡ true → Inside p (number f [] (g ∷ gs) Start)
number_begins p f g gs e a = (a, g, gs, refl, tt, λ ws h. ap (λ (hs : List Field). all_fit hs ws) e ∙ h)

won_kept : (p : Place) (b : ℕ) → p ≡ at_start → Kept p won b (won_next b)
won_kept p b h =
    by_test p won b (nat_eq b 10) (whole (Head TrueOutcome None)) (cond (nat_eq b 32) (more (number Optimum [] (fields Optimum) Start)) wrong)
    (λ e. record { allowed = ap (λ (q : Place). allows q (Head TrueOutcome None)) h; fits = refl; text = ap (λ (u : List ℕ). stem Optimum ++ u) (letter_is b 10 e) })
    (λ e. by_test p won b (nat_eq b 32) (more (number Optimum [] (fields Optimum) Start)) wrong
    (λ e. (number_begins p Optimum Total [] refl (ap (λ (q : Place). allows_form q Optimum) h), ap (λ (u : List ℕ). stem Optimum ++ u) (letter_is b 32 e))) (λ e. tt))

-- letters of lines
lines_kept : (p : Place) (d : Due) (b : ℕ) (fs : List Form) → p ≡ at d → Kept p (due d) b (line_next d fs b)
lines_kept p d b [] h = tt
lines_kept p d b (f ∷ fs) h =
    by_test p (due d) b (nat_eq b (letter f)) (cond (may d f) (more (lettered f)) wrong) (line_next d fs b)
    (λ e. by_test p (due d) b (may d f) (more (lettered f)) wrong
    (λ m. let l = line_stem d f m in ((l.0, ap (λ (q : Place). allows_form q f) h ∙ m), l.1 ∙ letter_is b (letter f) e)) (λ m. tt))
    (λ e. lines_kept p d b fs h)

-- what ends a line, or what is in it before a value
end_of : (f : Form) (b : ℕ) → is_end f b ≡ true → end_byte (nat_eq b 10) ≡ b
end_of f b h = by (nat_eq b 10) refl
  where
    by : (t : Bool) → nat_eq b 10 ≡ t → end_byte (nat_eq b 10) ≡ b
    by true e = ap end_byte e ∙ sym (eqb-true b 10 e)
    by false e =
        let q = and_parts (may_go_on f) (nat_eq b 32) (sym (ap (λ (t : Bool). t || (may_go_on f && nat_eq b 32)) e) ∙ h) in
        ap end_byte e ∙ sym (eqb-true b 32 q.1)

last_of : (f : Form) (b : ℕ) → is_end f b ≡ true → may_go_on f ≡ false → nat_eq b 10 ≡ true
last_of f b h m = by (nat_eq b 10) refl
  where
    by : (t : Bool) → nat_eq b 10 ≡ t → nat_eq b 10 ≡ true
    by true e = e
    by false e =
        let q = and_parts (may_go_on f) (nat_eq b 32) (sym (ap (λ (t : Bool). t || (may_go_on f && nat_eq b 32)) e) ∙ h) in
        let clash : false ≡ true = sym m ∙ q.0 in
        absurd (cc)

lead_is : (f : Form) → is_value f ≡ false → lead f ≡ stem f ++ 32 ∷ []
lead_is f h = ap (λ (t : Bool). cond t [] (stem f ++ 32 ∷ [])) h

lettered_by : (p : Place) (f : Form) (b : ℕ) (gs : List Field) → fields f ≡ gs → is_value f ≡ false → allows_form p f ≡ true → Kept p (lettered f) b (valued f [] gs b)
lettered_by p f b [] g l a =
    by_test p (lettered f) b (is_end f b) (whole (piece_of f [] (nat_eq b 10))) wrong
    (λ e.
    let k = is_piece p f (nat_eq b 10) [] (ap (λ (hs : List Field). all_fit hs []) g) (last_of f b e) in
    record { allowed = k.allowed ∙ a; fits = k.fits; text = k.text ∙ ap (λ (x : ℕ). stem f ++ x ∷ []) (end_of f b e) })
    (λ e. tt)
lettered_by p f b (k ∷ ks) g l a =
    by_test p (lettered f) b (nat_eq b 32) (more (number f [] (k ∷ ks) Start)) wrong
    (λ e. (number_begins p f k ks g a, append-nil (lead f) ∙ lead_is f l ∙ ap (λ (u : List ℕ). stem f ++ u) (letter_is b 32 e))) (λ e. tt)

-- what is pending, and one byte more
pending_more : (f : Form) (vs : List ℤ) (t u : List ℕ) (b : ℕ) → u ≡ t ++ b ∷ [] → lead f ++ (spaced vs ++ u) ≡ (lead f ++ (spaced vs ++ t)) ++ b ∷ []
pending_more f vs t u b h = ap (λ (w : List ℕ). lead f ++ (spaced vs ++ w)) h ∙ simp append_assoc

goes_with : (f : Form) (vs : List ℤ) (g : Field) (gs : List Field) (z : ℤ) → GoesWith f vs (g ∷ gs) → value_fits g z ≡ true → GoesWith f (vs ++ z ∷ []) gs
goes_with f vs g gs z c e = λ ws h. ap (all_fit (fields f)) (append_assoc vs (z ∷ []) ws) ∙ c (z ∷ ws) (and_from _ _ e h)

-- some values have a text by the first of them
spelled_some : (f : Form) (vs : List ℤ) (w : ℤ) (ws : List ℤ) (e : ℕ) → spelled f (vs ++ w ∷ ws) e ≡ lead f ++ tied (vs ++ w ∷ ws) e
spelled_some f [] w ws e = refl
spelled_some f (v ∷ vs) w ws e = refl

value_kept : (p : Place) (f : Form) (vs : List ℤ) (g : Field) (later : List Field) (n : Numeral) (b : ℕ) (z : ℤ) → allows_form p f ≡ true → GoesWith f vs (g ∷ later) → value_fits g z ≡ true → numeral_text n ≡ signed_decimal z
    → Kept p (number f vs (g ∷ later) n) b (valued f (vs ++ z ∷ []) later b)
value_kept p f vs g [] n b z a c e t =
    by_test p (number f vs (g ∷ []) n) b (is_end f b) (whole (piece_of f (vs ++ z ∷ []) (nat_eq b 10))) wrong
    (λ i.
    let k = is_piece p f (nat_eq b 10) (vs ++ z ∷ []) (c (z ∷ []) (and_from _ _ e refl)) (last_of f b i) in
    record {
      allowed = k.allowed ∙ a;
      fits = k.fits;
      text = k.text ∙ spelled_some f vs z [] (end_byte (nat_eq b 10)) ∙ ap (λ (x : ℕ). lead f ++ tied (vs ++ z ∷ []) x) (end_of f b i) ∙ ap (λ (u : List ℕ). lead f ++ u) (tied_more vs z [] b)
          ∙ pending_more f vs (numeral_text n) (signed_decimal z ++ b ∷ []) b (ap (λ (u : List ℕ). u ++ b ∷ []) (sym t));
    })
    (λ i. tt)
value_kept p f vs g (h ∷ hs) n b z a c e t =
    by_test p (number f vs (g ∷ h ∷ hs) n) b (nat_eq b 32) (more (number f (vs ++ z ∷ []) (h ∷ hs) Start)) wrong
    (λ i. (
      (a, h, hs, refl, tt, goes_with f vs g (h ∷ hs) z c e),
      ap (λ (u : List ℕ). lead f ++ u) (append-nil (spaced (vs ++ z ∷ [])) ∙ spaced_push vs z)
          ∙ pending_more f vs (numeral_text n) (signed_decimal z ++ 32 ∷ []) b (ap (λ (u : List ℕ). u ++ 32 ∷ []) (sym t) ∙ ap (λ (u : List ℕ). numeral_text n ++ u) (letter_is b 32 i)),
    ))
    (λ i. tt)

number_kept : (p : Place) (f : Form) (vs : List ℤ) (g : Field) (later : List Field) (n : Numeral) (b : ℕ) → allows_form p f ≡ true → FitsNumeral g n → GoesWith f vs (g ∷ later) → Kept p (number f vs (g ∷ later) n) b (number_next f vs (g ∷ later) n b)
number_kept p f vs g later n b a fits c = from (reading g n b) (reading_kept g n b fits)
  where
    from : (r : Reading) → ReadingKept g n b r → Kept p (number f vs (g ∷ later) n) b (read_by f vs (g ∷ later) b r)
    from (further m) k = ((a, g, later, refl, k.0, c), pending_more f vs (numeral_text n) (numeral_text m) b k.1)
    from (ended z) k = value_kept p f vs g later n b z a c k.0 k.1
    from bad k = tt

pub state_kept : (p : Place) (s : State) (b : ℕ) → Inside p s → Kept p s b (next s b)
state_kept p (word w read) b h = word_kept p w read b h.0 h.1
state_kept p outcome b h = outcome_kept p b h
state_kept p won b h = won_kept p b h
state_kept p (due d) b h = lines_kept p d b all_lines h
state_kept p (lettered f) b h = lettered_by p f b (fields f) refl h.0 h.1
state_kept p (number f vs gs n) b h =
    subst (λ (fs : List Field). Kept p (number f vs fs n) b (number_next f vs fs n b)) (sym h.3) (number_kept p f vs h.1 h.2 n b h.0 h.4 h.5)

-- the beginnings of pieces
pub begins_inside : (p : Place) (s : State) → s ≡ state_at p → Inside p s
begins_inside at_start s e = subst (Inside at_start) (sym e) (refl, omega arith)
begins_inside (at_value u) s e = subst (Inside (at_value u)) (sym e) (number_begins (at_value u) (ValueOf u) ValueField [] refl (same_is u))
begins_inside (at d) s e = subst (Inside (at d)) (sym e) refl

-- a piece that goes on so
pub record Completed (p : Place) (s : State) : Type 0 where
  pub rest : List ℕ
  pub i : Piece
  pub allowed : allows p i ≡ true
  pub fits : piece_fits i ≡ true
  pub text : piece_text i ≡ pending s ++ rest

-- any outcome may come first
head_allowed : (p : Place) (i : Piece) → p ≡ at_start → allows at_start i ≡ true → allows p i ≡ true
head_allowed p i h a = ap (λ (q : Place). allows q i) h ∙ a

word_completed : (p : Place) (w : Word) (read : ℕ) → p ≡ at_start → Completed p (word w read)
word_completed p Name read h = record {
  rest = drop read (word_text Name) ++ codes "true\n";
  i = Head TrueOutcome None;
  allowed = head_allowed p (Head TrueOutcome None) h refl;
  fits = refl;
  text = ap (λ (u : List ℕ). u ++ codes "true\n") (sym (take-append-drop read (word_text Name))) ∙ append_assoc (take read (word_text Name)) (drop read (word_text Name)) (codes "true\n");
}
word_completed p True read h = record {
  rest = drop read (word_text True) ++ codes "\n";
  i = Head TrueOutcome None;
  allowed = head_allowed p (Head TrueOutcome None) h refl;
  fits = refl;
  text = ap (λ (u : List ℕ). codes "qcert 4\n" ++ (u ++ codes "\n")) (sym (take-append-drop read (word_text True)))
      ∙ ap (λ (u : List ℕ). codes "qcert 4\n" ++ u) (append_assoc (take read (word_text True)) (drop read (word_text True)) (codes "\n"))
      ∙ sym (append_assoc (codes "qcert 4\n") (take read (word_text True)) (drop read (word_text True) ++ codes "\n"));
}
word_completed p False read h = record {
  rest = drop read (word_text False);
  i = Head FalseOutcome None;
  allowed = head_allowed p (Head FalseOutcome None) h refl;
  fits = refl;
  text = ap (λ (u : List ℕ). codes "qcert 4\n" ++ u) (sym (take-append-drop read (word_text False))) ∙ sym (append_assoc (codes "qcert 4\n") (take read (word_text False)) (drop read (word_text False)));
}
word_completed p Open read h = record {
  rest = drop read (word_text Open) ++ 32 ∷ (signed_decimal (pos 1) ++ codes "\n");
  i = Head (OpenOutcome 1) None;
  allowed = head_allowed p (Head (OpenOutcome 1) None) h refl;
  fits = refl;
  text = ap (λ (u : List ℕ). codes "qcert 4\n" ++ (u ++ 32 ∷ (signed_decimal (pos 1) ++ codes "\n"))) (sym (take-append-drop read (word_text Open)))
      ∙ ap (λ (u : List ℕ). codes "qcert 4\n" ++ u) (append_assoc (take read (word_text Open)) (drop read (word_text Open)) (32 ∷ (signed_decimal (pos 1) ++ codes "\n")))
      ∙ sym (append_assoc (codes "qcert 4\n") (take read (word_text Open)) (drop read (word_text Open) ++ 32 ∷ (signed_decimal (pos 1) ++ codes "\n")));
}

-- the fields that are left, each with 1
abbrev after_one : List Field → List ℕ
after_one [] = 10 ∷ []
after_one (g ∷ gs) = 32 ∷ (signed_decimal (pos (suc zero)) ++ after_one gs)

tied_ones : (z : ℤ) (gs : List Field) → tied (z ∷ ones gs) 10 ≡ signed_decimal z ++ after_one gs
tied_ones z [] = refl
tied_ones z (g ∷ gs) = ap (λ (u : List ℕ). signed_decimal z ++ 32 ∷ u) (tied_ones (pos (suc zero)) gs)

number_completed : (p : Place) (f : Form) (vs : List ℤ) (gs : List Field) (n : Numeral) → Inside p (number f vs gs n) → Completed p (number f vs gs n)
number_completed p f vs gs n h =
    let g = h.1 in let later = h.2 in
    let e = ends g n h.4 in
    let ws : List ℤ = vs ++ e.z ∷ ones later in
    let k = is_piece p f true ws (h.5 (e.z ∷ ones later) (and_from _ _ e.fits (ones_fit later))) (λ l. refl) in
    record {
      rest = e.more ++ after_one later;
      i = piece_of f ws true;
      allowed = k.allowed ∙ h.0;
      fits = k.fits;
      text = k.text ∙ spelled_some f vs e.z (ones later) 10
          ∙ ap (λ (u : List ℕ). lead f ++ u) (tied_more vs e.z (ones later) 10 ∙ ap (λ (u : List ℕ). spaced vs ++ u) (tied_ones e.z later ∙ ap (λ (u : List ℕ). u ++ after_one later) e.text)) ∙ simp append_assoc;
    }

lettered_completed : (p : Place) (f : Form) (gs : List Field) → fields f ≡ gs → is_value f ≡ false → allows_form p f ≡ true → Completed p (lettered f)
lettered_completed p f [] g l a =
    let k = is_piece p f true [] (ap (λ (hs : List Field). all_fit hs []) g) (λ e. refl) in
    record { rest = 10 ∷ []; i = piece_of f [] true; allowed = k.allowed ∙ a; fits = k.fits; text = k.text }
lettered_completed p f (h ∷ hs) g l a =
    let ws : List ℤ = ones (h ∷ hs) in
    let k = is_piece p f true ws (ap (λ (gs : List Field). all_fit gs ws) g ∙ ones_fit (h ∷ hs)) (λ e. refl) in
    record {
      rest = 32 ∷ tied ws 10;
      i = piece_of f ws true;
      allowed = k.allowed ∙ a;
      fits = k.fits;
      text = k.text ∙ ap (λ (u : List ℕ). u ++ tied ws 10) (lead_is f l) ∙ append_assoc (stem f) (32 ∷ []) (tied ws 10);
    }

-- a line begins, or a piece can be completed
pub data Ready (p : Place) (s : State) : Type 0 where
  between : (d : Due) → p ≡ at d → s ≡ due d → Ready p s
  within : ((d : Due) → s ≡ due d → ⊥) → Completed p s → Ready p s

pub ready : (p : Place) (s : State) → Inside p s → Ready p s
ready p (word w read) h = within (λ d e. absurd (cc)) (word_completed p w read h.0)
ready p outcome h = within (λ d e. absurd (cc)) (record {
  rest = codes "true\n";
  i = Head TrueOutcome None;
  allowed = head_allowed p (Head TrueOutcome None) h refl;
  fits = refl;
  text = refl;
})
ready p won h = within (λ d e. absurd (cc)) (record {
  rest = 10 ∷ [];
  i = Head TrueOutcome None;
  allowed = head_allowed p (Head TrueOutcome None) h refl;
  fits = refl;
  text = refl;
})
ready p (due d) h = between d h refl
ready p (lettered f) h = within (λ d e. absurd (cc)) (lettered_completed p f (fields f) refl h.0 h.1)
ready p (number f vs gs n) h = within (λ d e. absurd (cc)) (number_completed p f vs gs n h)
