-- What is read of a piece is its text so far, and it can be ended.
use Rattle.std.proofs.Common.{◌≡◌, inl, inr, refl, sym, ap, ◌∙◌, subst, ℕ, zero, suc, ◌+◌, ◌≤◌, ◌<◌, List, [], ◌∷◌, ◌++◌, take, drop, get_or, length, Bool, true, false, ◌||◌, cond, arith, append_assoc, take-append-drop}
use Rattle.std.specs.Prelude.{ℤ, pos, nat_eq, nat_lt, codes}
use Rattle.std.specs.Fmt.{signed_decimal}
use Rattle.std.proofs.lemmas.Bool.{and_from, eqb-true, ltb-true, ltb-false, or_cases}
use Rattle.std.proofs.lemmas.List.{append-nil, take_more, take_all}
use Rattle.qc_model.specs.declared.problem.Kind.{Kind}
use Rattle.qc_model.specs.declared.problem.Kind.TheVariants.{Exists, Forall}
use Rattle.lemma_text.specs.declared.item.Item.{Item}
use Rattle.lemma_text.specs.declared.item.Item.TheVariants.{Head, Lemma as LemmaItem, Goal}
use Rattle.lemma_text.specs.declared.parts.Field.{Field}
use Rattle.lemma_text.specs.declared.parts.Field.TheVariants.{Variable, Constraint, Named, Value, Total}
use Rattle.lemma_text.specs.declared.parts.Numeral.{Numeral}
use Rattle.lemma_text.specs.declared.parts.Numeral.TheVariants.{Start}
use Rattle.lemma_text.specs.declared.parts.Form.{Form}
use Rattle.lemma_text.specs.declared.parts.Form.TheVariants.{Literal, Sum, CutByConstraint, CutByLemma, Choice, LostToConstraint, LostToLemma, Forgotten}
use Rattle.lemma_text.specs.declared.parts.Word.{Word}
use Rattle.lemma_text.specs.declared.parts.Word.TheVariants.{Name, True, False}
use Rattle.lemma_text.specs.declared.parts.Due.{Due}
use Rattle.lemma_text.specs.declared.parts.Due.TheVariants.{Entries, Steps, Sums}
use Rattle.lemma_text.specs.Text.{loser_text}
use Rattle.lemma_text.specs.Items.{item_text, item_fits}
use Rattle.lemma_text.specs.Numerals.{value_fits, Reading, further, ended, bad, reading, numeral_text, FitsNumeral}
use Rattle.lemma_text.specs.Pieces.{fields, letter, is_literal, lead, all_fit, tied, end_byte, item_of}
use Rattle.lemma_text.specs.States.{State, word, outcome, due, begun, lettered, reached, number, Next, more, whole, wrong, word_text, word_end, word_next, entry_letter, step_letter, due_letter, is_end, valued, read_by, number_next, next, Place, at_start, at, place_after, may_step, allows}
use Rattle.lemma_text.specs.Unfinished.{before_word, spaced, pending, allows_form, GoesWith, Inside}
use Rattle.lemma_text.proofs.NumbersKept.{letter_is, ReadingKept, reading_kept, ends, one_fits}
use Rattle.lemma_text.proofs.PiecesKept.{is_piece}

-- what a byte leads to
pub record IsItem (p : Place) (s : State) (b : ℕ) (i : Item) : Type 0 where
  pub allowed : allows p i ≡ true
  pub fits : item_fits i ≡ true
  pub text : item_text i ≡ pending s ++ b ∷ []

abbrev pub Kept : Place → State → ℕ → Next → Type 0
Kept p s b (more t) = Inside p t × (pending t ≡ pending s ++ b ∷ [])
Kept p s b (whole i) = IsItem p s b i
Kept p s b wrong = Unit {0}

by_test : (p : Place) (s : State) (b : ℕ) (t : Bool) (x y : Next) → (t ≡ true → Kept p s b x) → (t ≡ false → Kept p s b y) → Kept p s b (cond t x y)
by_test p s b true x y f h = f refl
by_test p s b false x y f h = h refl

-- letters of the first lines
word_more : (w : Word) (read b : ℕ) → read < length (word_text w) → b ≡ get_or (word_text w) read 0 → before_word w ++ take (read + 1) (word_text w) ≡ (before_word w ++ take read (word_text w)) ++ b ∷ []
word_more w read b lt e =
    ap (λ (u : List ℕ). before_word w ++ u) (take_more (word_text w) read 0 lt ∙ ap (λ (x : ℕ). take read (word_text w) ++ x ∷ []) (sym e))
    ∙ sym (append_assoc (before_word w) (take read (word_text w)) (b ∷ []))

word_done : (w : Word) (read b : ℕ) → read < length (word_text w) → length (word_text w) ≤ read + 1 → b ≡ get_or (word_text w) read 0 → before_word w ++ word_text w ≡ (before_word w ++ take read (word_text w)) ++ b ∷ []
word_done w read b lt le e = ap (λ (u : List ℕ). before_word w ++ u) (sym (take_all (read + 1) (word_text w) le)) ∙ word_more w read b lt e

word_ended : (p : Place) (w : Word) (read b : ℕ) → p ≡ at_start → before_word w ++ word_text w ≡ (before_word w ++ take read (word_text w)) ++ b ∷ [] → Kept p (word w read) b (word_end w)
word_ended p Name read b h e = (h, e)
word_ended p True read b h e = record { allowed = ap (λ (q : Place). allows q (Head Forall)) h; fits = refl; text = e }
word_ended p False read b h e = record { allowed = ap (λ (q : Place). allows q (Head Exists)) h; fits = refl; text = e }

word_kept : (p : Place) (w : Word) (read b : ℕ) → p ≡ at_start → read < length (word_text w) → Kept p (word w read) b (word_next w read b)
word_kept p w read b h lt =
    by_test p (word w read) b (nat_eq b (get_or (word_text w) read 0)) (cond (nat_lt (read + 1) (length (word_text w))) (more (word w (read + 1))) (word_end w)) wrong
    (λ e.
    let is = eqb-true b (get_or (word_text w) read 0) e in
    by_test p (word w read) b (nat_lt (read + 1) (length (word_text w))) (more (word w (read + 1))) (word_end w)
    (λ t. ((h, ltb-true (read + 1) (length (word_text w)) t), word_more w read b lt is))
    (λ t. word_ended p w read b h (word_done w read b lt (ltb-false (read + 1) (length (word_text w)) t) is)))
    (λ e. tt)

-- letters of lines
entry_kept : (p : Place) (d : Due) (b : ℕ) → p ≡ at d → Kept p (due d) b (entry_letter b)
entry_kept p d b h =
    by_test p (due d) b (nat_eq b 108) (more (begun Exists)) (cond (nat_eq b 119) (more (begun Forall)) (cond (nat_eq b 100) (more (lettered Forgotten)) wrong)) (λ e. ((d, h), letter_is b 108 e))
    (λ e. by_test p (due d) b (nat_eq b 119) (more (begun Forall)) (cond (nat_eq b 100) (more (lettered Forgotten)) wrong) (λ e. ((d, h), letter_is b 119 e))
    (λ e. by_test p (due d) b (nat_eq b 100) (more (lettered Forgotten)) wrong (λ e. ((refl, ap (λ (q : Place). allows_form q Forgotten) h), letter_is b 100 e)) (λ e. tt)))

form_kept : (p : Place) (d : Due) (b : ℕ) (f : Form) (other : Next) → is_literal f ≡ false → allows_form p f ≡ true → Kept p (due d) b other → Kept p (due d) b (cond (nat_eq b (letter f)) (more (lettered f)) other)
form_kept p d b f other l a k = by_test p (due d) b (nat_eq b (letter f)) (more (lettered f)) other (λ e. ((l, a), letter_is b (letter f) e)) (λ e. k)

step_kept : (p : Place) (d : Due) (b : ℕ) → p ≡ at d → may_step d ≡ true → Kept p (due d) b (step_letter b)
step_kept p d b h m =
    form_kept p d b CutByConstraint _ refl (ap (λ (q : Place). allows_form q CutByConstraint) h ∙ m)
    (form_kept p d b CutByLemma _ refl (ap (λ (q : Place). allows_form q CutByLemma) h ∙ m)
    (form_kept p d b Choice _ refl (ap (λ (q : Place). allows_form q Choice) h ∙ m)
    (form_kept p d b LostToConstraint _ refl (ap (λ (q : Place). allows_form q LostToConstraint) h ∙ m)
    (form_kept p d b LostToLemma _ refl (ap (λ (q : Place). allows_form q LostToLemma) h ∙ m)
    (by_test p (due d) b (nat_eq b 103) (more reached) (entry_letter b) (λ e. ((d, h, m), letter_is b 103 e)) (λ e. entry_kept p d b h))))))

due_kept : (p : Place) (d : Due) (b : ℕ) → p ≡ at d → Kept p (due d) b (due_letter d b)
due_kept p Entries b h = entry_kept p Entries b h
due_kept p Steps b h = step_kept p Steps b h refl
due_kept p Sums b h = form_kept p Sums b Sum (step_letter b) refl (ap (λ (q : Place). allows_form q Sum) h) (step_kept p Sums b h refl)

begun_kept : (p : Place) (k : Kind) (b : ℕ) (d : Due) → p ≡ at d → Kept p (begun k) b (next (begun k) b)
begun_kept p k b d h =
    by_test p (begun k) b (nat_eq b 32) (whole (LemmaItem k false)) (cond (nat_eq b 10) (whole (LemmaItem k true)) wrong)
    (λ e. record { allowed = ap (λ (q : Place). allows q (LemmaItem k false)) h; fits = refl; text = ap (λ (u : List ℕ). loser_text k ++ u) (letter_is b 32 e) })
    (λ e. by_test p (begun k) b (nat_eq b 10) (whole (LemmaItem k true)) wrong
    (λ e. record { allowed = ap (λ (q : Place). allows q (LemmaItem k true)) h; fits = refl; text = ap (λ (u : List ℕ). loser_text k ++ u) (letter_is b 10 e) }) (λ e. tt))

-- the first of a piece's fields
pub first_field : (f : Form) → (g : Field) × (later : List Field) × (fields f ≡ g ∷ later)
first_field Literal = (Variable, Value ∷ Value ∷ [], refl)
first_field Sum = (Constraint, Total ∷ Total ∷ [], refl)
first_field CutByConstraint = (Variable, Value ∷ Value ∷ Constraint ∷ [], refl)
first_field CutByLemma = (Variable, Value ∷ Value ∷ Named ∷ [], refl)
first_field Choice = (Variable, Value ∷ [], refl)
first_field LostToConstraint = (Constraint, [], refl)
first_field LostToLemma = (Named, [], refl)
first_field Forgotten = (Named, [], refl)

pub number_begins : (p : Place) (f : Form) → allows_form p f ≡ true → Inside p (number f [] (fields f) Start)
number_begins p f a =
    let g = first_field f in
    (a, g.0, g.1, g.2, tt, λ ws h. ap (λ (gs : List Field). all_fit gs ws) g.2 ∙ h)

lead_is : (f : Form) → is_literal f ≡ false → lead f ≡ letter f ∷ 32 ∷ []
lead_is f h = ap (λ (t : Bool). cond t [] (letter f ∷ 32 ∷ [])) h

lettered_kept : (p : Place) (f : Form) (b : ℕ) → is_literal f ≡ false → allows_form p f ≡ true → Kept p (lettered f) b (next (lettered f) b)
lettered_kept p f b l a = by_test p (lettered f) b (nat_eq b 32) (more (number f [] (fields f) Start)) wrong
    (λ e. (number_begins p f a, append-nil (lead f) ∙ lead_is f l ∙ ap (λ (u : List ℕ). letter f ∷ u) (letter_is b 32 e))) (λ e. tt)

reached_kept : (p : Place) (b : ℕ) (d : Due) → p ≡ at d → may_step d ≡ true → Kept p reached b (next reached b)
reached_kept p b d h m = by_test p reached b (nat_eq b 10) (whole Goal) wrong
    (λ e. record { allowed = ap (λ (q : Place). allows q Goal) h ∙ m; fits = refl; text = ap (λ (u : List ℕ). 103 ∷ u) (letter_is b 10 e) }) (λ e. tt)

-- values, and one more
pub spaced_push : (vs : List ℤ) (z : ℤ) → spaced (vs ++ z ∷ []) ≡ spaced vs ++ (signed_decimal z ++ 32 ∷ [])
spaced_push [] z = refl
spaced_push (v ∷ vs) z = ap (λ (u : List ℕ). signed_decimal v ++ 32 ∷ u) (spaced_push vs z) ∙ sym (append_assoc (signed_decimal v) (32 ∷ spaced vs) (signed_decimal z ++ 32 ∷ []))

pub tied_more : (vs : List ℤ) (w : ℤ) (ws : List ℤ) (e : ℕ) → tied (vs ++ w ∷ ws) e ≡ spaced vs ++ tied (w ∷ ws) e
tied_more [] w ws e = refl
tied_more (v ∷ []) w ws e = sym (append_assoc (signed_decimal v) (32 ∷ []) (tied (w ∷ ws) e))
tied_more (v ∷ u ∷ vs) w ws e = ap (λ (t : List ℕ). signed_decimal v ++ 32 ∷ t) (tied_more (u ∷ vs) w ws e) ∙ sym (append_assoc (signed_decimal v) (32 ∷ spaced (u ∷ vs)) (tied (w ∷ ws) e))

-- what is pending, and one byte more
pending_more : (f : Form) (vs : List ℤ) (t u : List ℕ) (b : ℕ) → u ≡ t ++ b ∷ [] → lead f ++ (spaced vs ++ u) ≡ (lead f ++ (spaced vs ++ t)) ++ b ∷ []
pending_more f vs t u b h = ap (λ (w : List ℕ). lead f ++ (spaced vs ++ w)) h ∙ simp append_assoc

end_is : (b : ℕ) → (nat_eq b 32 || nat_eq b 10) ≡ true → end_byte (nat_eq b 10) ≡ b
end_is b h = by (nat_eq b 10) refl
  where
    by : (t : Bool) → nat_eq b 10 ≡ t → end_byte (nat_eq b 10) ≡ b
    by true e = ap end_byte e ∙ sym (eqb-true b 10 e)
    by false e = ap end_byte e ∙ elim (or_cases (nat_eq b 32) (nat_eq b 10) h) [ inl s ↦ sym (eqb-true b 32 s) | inr s ↦ absurd (cc) ]

last_of : (f : Form) (b : ℕ) → is_end f b ≡ true → is_literal f ≡ false → nat_eq b 10 ≡ true
last_of f b h l = sym (ap (λ (t : Bool). t || nat_eq b 10) l) ∙ h

goes_with : (f : Form) (vs : List ℤ) (g : Field) (gs : List Field) (z : ℤ) → GoesWith f vs (g ∷ gs) → value_fits g z ≡ true → GoesWith f (vs ++ z ∷ []) gs
goes_with f vs g gs z c e = λ ws h. ap (all_fit (fields f)) (append_assoc vs (z ∷ []) ws) ∙ c (z ∷ ws) (and_from _ _ e h)

value_kept : (p : Place) (f : Form) (vs : List ℤ) (g : Field) (later : List Field) (n : Numeral) (b : ℕ) (z : ℤ) → allows_form p f ≡ true → GoesWith f vs (g ∷ later) → value_fits g z ≡ true → numeral_text n ≡ signed_decimal z
    → (nat_eq b 32 || nat_eq b 10) ≡ true → Kept p (number f vs (g ∷ later) n) b (valued f (vs ++ z ∷ []) later b)
value_kept p f vs g [] n b z a c e t end =
    by_test p (number f vs (g ∷ []) n) b (is_end f b) (whole (item_of f (vs ++ z ∷ []) (nat_eq b 10))) wrong
    (λ i.
    let k = is_piece p f (nat_eq b 10) (vs ++ z ∷ []) (c (z ∷ []) (and_from _ _ e refl)) (last_of f b i) in
    record {
      allowed = k.allowed ∙ a;
      fits = k.fits;
      text = k.text ∙ ap (λ (x : ℕ). lead f ++ tied (vs ++ z ∷ []) x) (end_is b end) ∙ ap (λ (u : List ℕ). lead f ++ u) (tied_more vs z [] b)
          ∙ pending_more f vs (numeral_text n) (signed_decimal z ++ b ∷ []) b (ap (λ (u : List ℕ). u ++ b ∷ []) (sym t));
    })
    (λ i. tt)
value_kept p f vs g (h ∷ hs) n b z a c e t end =
    by_test p (number f vs (g ∷ h ∷ hs) n) b (nat_eq b 32) (more (number f (vs ++ z ∷ []) (h ∷ hs) Start)) wrong
    (λ i. (
      (a, h, hs, refl, tt, goes_with f vs g (h ∷ hs) z c e),
      ap (λ (u : List ℕ). lead f ++ u) (append-nil (spaced (vs ++ z ∷ [])) ∙ spaced_push vs z)
          ∙ pending_more f vs (numeral_text n) (signed_decimal z ++ 32 ∷ []) b (ap (λ (u : List ℕ). u ++ 32 ∷ []) (sym t) ∙ ap (λ (u : List ℕ). numeral_text n ++ u) (letter_is b 32 i)),
    ))
    (λ i. tt)

number_kept : (p : Place) (f : Form) (vs : List ℤ) (g : Field) (later : List Field) (n : Numeral) (b : ℕ) → allows_form p f ≡ true → FitsNumeral g n → GoesWith f vs (g ∷ later) → Kept p (number f vs (g ∷ later) n) b (number_next f vs (g ∷ later) n b)
number_kept p f vs g later n b a fits c = from (reading g n b) (reading_kept g n b fits)
  where
    from : (r : Reading) → ReadingKept g n b r → Kept p (number f vs (g ∷ later) n) b (read_by f vs (g ∷ later) b r)
    from (further m) k = ((a, g, later, refl, k.0, c), pending_more f vs (numeral_text n) (numeral_text m) b k.1)
    from (ended z) k = value_kept p f vs g later n b z a c k.0 k.1 k.2
    from bad k = tt

pub state_kept : (p : Place) (s : State) (b : ℕ) → Inside p s → Kept p s b (next s b)
state_kept p (word w read) b h = word_kept p w read b h.0 h.1
state_kept p outcome b h =
    by_test p outcome b (nat_eq b 116) (more (word True 1)) (cond (nat_eq b 102) (more (word False 1)) wrong)
    (λ e. ((h, omega arith), ap (λ (u : List ℕ). codes "qcert 3\n" ++ u) (letter_is b 116 e)))
    (λ e. by_test p outcome b (nat_eq b 102) (more (word False 1)) wrong (λ e. ((h, omega arith), ap (λ (u : List ℕ). codes "qcert 3\n" ++ u) (letter_is b 102 e))) (λ e. tt))
state_kept p (due d) b h = due_kept p d b h
state_kept p (begun k) b h = begun_kept p k b h.0 h.1
state_kept p (lettered f) b h = lettered_kept p f b h.0 h.1
state_kept p reached b h = reached_kept p b h.0 h.1 h.2
state_kept p (number f vs gs n) b h =
    subst (λ (fs : List Field). Kept p (number f vs fs n) b (number_next f vs fs n b)) (sym h.3) (number_kept p f vs h.1 h.2 n b h.0 h.4 h.5)

-- a piece that goes on so, after which a line begins
pub record Completed (p : Place) (s : State) : Type 0 where
  pub rest : List ℕ
  pub i : Item
  pub d : Due
  pub allowed : allows p i ≡ true
  pub fits : item_fits i ≡ true
  pub text : item_text i ≡ pending s ++ rest
  pub after : place_after i ≡ at d

word_completed : (p : Place) (w : Word) (read : ℕ) → p ≡ at_start → Completed p (word w read)
word_completed p Name read h = record {
  rest = drop read (word_text Name) ++ codes "true\n";
  i = Head Forall;
  d = Entries;
  allowed = ap (λ (q : Place). allows q (Head Forall)) h;
  fits = refl;
  text = ap (λ (u : List ℕ). u ++ codes "true\n") (sym (take-append-drop read (word_text Name))) ∙ append_assoc (take read (word_text Name)) (drop read (word_text Name)) (codes "true\n");
  after = refl;
}
word_completed p True read h = record {
  rest = drop read (word_text True);
  i = Head Forall;
  d = Entries;
  allowed = ap (λ (q : Place). allows q (Head Forall)) h;
  fits = refl;
  text = ap (λ (u : List ℕ). codes "qcert 3\n" ++ u) (sym (take-append-drop read (word_text True))) ∙ sym (append_assoc (codes "qcert 3\n") (take read (word_text True)) (drop read (word_text True)));
  after = refl;
}
word_completed p False read h = record {
  rest = drop read (word_text False);
  i = Head Exists;
  d = Entries;
  allowed = ap (λ (q : Place). allows q (Head Exists)) h;
  fits = refl;
  text = ap (λ (u : List ℕ). codes "qcert 3\n" ++ u) (sym (take-append-drop read (word_text False))) ∙ sym (append_assoc (codes "qcert 3\n") (take read (word_text False)) (drop read (word_text False)));
  after = refl;
}

-- the fields that are left, each with 1
abbrev pub ones : List Field → List ℤ
ones [] = []
ones (g ∷ gs) = pos (suc zero) ∷ ones gs

pub ones_fit : (gs : List Field) → all_fit gs (ones gs) ≡ true
ones_fit [] = refl
ones_fit (g ∷ gs) = and_from _ _ (one_fits g) (ones_fit gs)

abbrev after_value : List Field → List ℕ
after_value [] = 10 ∷ []
after_value (g ∷ gs) = 32 ∷ (signed_decimal (pos (suc zero)) ++ after_value gs)

tied_ones : (z : ℤ) (gs : List Field) → tied (z ∷ ones gs) 10 ≡ signed_decimal z ++ after_value gs
tied_ones z [] = refl
tied_ones z (g ∷ gs) = ap (λ (u : List ℕ). signed_decimal z ++ 32 ∷ u) (tied_ones (pos (suc zero)) gs)

pub number_completed : (p : Place) (f : Form) (vs : List ℤ) (gs : List Field) (n : Numeral) → Inside p (number f vs gs n) → Completed p (number f vs gs n)
number_completed p f vs gs n h =
    let g = h.1 in let later = h.2 in
    let e = ends g n h.4 in
    let ws : List ℤ = vs ++ e.z ∷ ones later in
    let k = is_piece p f true ws (h.5 (e.z ∷ ones later) (and_from _ _ e.fits (ones_fit later))) (λ l. refl) in
    let a = k.after refl in
    record {
      rest = e.more ++ after_value later;
      i = item_of f ws true;
      d = a.0;
      allowed = k.allowed ∙ h.0;
      fits = k.fits;
      text = k.text ∙ ap (λ (u : List ℕ). lead f ++ u) (tied_more vs e.z (ones later) 10 ∙ ap (λ (u : List ℕ). spaced vs ++ u) (tied_ones e.z later ∙ ap (λ (u : List ℕ). u ++ after_value later) e.text)) ∙ simp append_assoc;
      after = a.1;
    }

lettered_completed : (p : Place) (f : Form) → is_literal f ≡ false → allows_form p f ≡ true → Completed p (lettered f)
lettered_completed p f l a =
    let k = number_completed p f [] (fields f) Start (number_begins p f a) in
    record {
      rest = 32 ∷ k.rest;
      i = k.i;
      d = k.d;
      allowed = k.allowed;
      fits = k.fits;
      text = k.text ∙ ap (λ (u : List ℕ). u ++ k.rest) (append-nil (lead f) ∙ lead_is f l);
      after = k.after;
    }

-- a piece is whole, or can be completed
pub data Ready (p : Place) (s : State) : Type 0 where
  between : (d : Due) → p ≡ at d → s ≡ due d → Ready p s
  within : ((d : Due) → s ≡ due d → ⊥) → Completed p s → Ready p s

pub ready : (p : Place) (s : State) → Inside p s → Ready p s
ready p (word w read) h = within (λ d e. absurd (cc)) (word_completed p w read h.0)
ready p outcome h = within (λ d e. absurd (cc)) (record {
  rest = codes "true\n";
  i = Head Forall;
  d = Entries;
  allowed = ap (λ (q : Place). allows q (Head Forall)) h;
  fits = refl;
  text = refl;
  after = refl;
})
ready p (due d) h = between d h refl
ready p (begun k) h = within (λ d e. absurd (cc)) (record {
  rest = 10 ∷ [];
  i = LemmaItem k true;
  d = Sums;
  allowed = ap (λ (q : Place). allows q (LemmaItem k true)) h.1;
  fits = refl;
  text = refl;
  after = refl;
})
ready p (lettered f) h = within (λ d e. absurd (cc)) (lettered_completed p f h.0 h.1)
ready p reached h = within (λ d e. absurd (cc)) (record {
  rest = 10 ∷ [];
  i = Goal;
  d = Entries;
  allowed = ap (λ (q : Place). allows q Goal) h.1 ∙ h.2;
  fits = refl;
  text = refl;
  after = refl;
})
ready p (number f vs gs n) h = within (λ d e. absurd (cc)) (number_completed p f vs gs n h)
