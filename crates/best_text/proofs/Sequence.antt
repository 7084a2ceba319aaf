-- One part and then another, and the place at which they stop.
use Rattle.std.proofs.Common.{◌≡◌, refl, sym, ap, ◌∙◌, subst, ℕ, ◌+◌, ◌-◌, ◌^◌, ◌≤◌, ◌<◌, List, [], ◌∷◌, ◌++◌, length, take, append_assoc, arith, leb-true, length-append}
use Rattle.std.specs.Prelude.{ℤ, pos, IsTrue, codes, nat_le, unsigned_abs}
use Rattle.std.specs.Fmt.{decimal, signed_decimal}
use Rattle.std.proofs.lemmas.List.{append_cancel_left, take_at, length_push}
use Rattle.proof_text.proofs.Unique.{signed_one, number_one}
use Rattle.best_text.specs.Text.{head_text, HeadFits, IsHead}
use Rattle.best_text.specs.Stuck.{BeginAlike, IsPlace, IsStuck, IsWord, IsCount, IsSigned, Then}
use Rattle.best_text.specs.Heads.{BeginsWithHead}

pub in_first : (A B : List ℕ → Type 0) (bytes : List ℕ) (left : ℕ) (b : List ℕ) → B b → IsStuck A bytes left → IsStuck (Then A B) bytes left
in_first A B bytes left b is_b s = record {
  front = s.front;
  tail = s.tail;
  whole = s.whole;
  many = s.many;
  begins = (s.begins.0 ++ b, (s.front ++ s.begins.0, b, s.begins.1, is_b, sym (append_assoc s.front s.begins.0 b)));
  here = λ text u more is agrees alike. s.here is.0 u (is.1 ++ more) is.2 (agrees ∙ ap (λ (t : List ℕ). t ++ more) is.4 ∙ append_assoc is.0 is.1 more) alike;
}

-- where the first part is read in one way alone
pub in_second : (A B : List ℕ → Type 0) (a rest bytes : List ℕ) (left : ℕ) → ((other x y : List ℕ) → A other → a ++ x ≡ other ++ y → x ≡ y) → A a → bytes ≡ a ++ rest → IsStuck B rest left → IsStuck (Then A B) bytes left
in_second A B a rest bytes left one is_a e s = record {
  front = a ++ s.front;
  tail = s.tail;
  whole = e ∙ ap (λ (t : List ℕ). a ++ t) s.whole ∙ sym (append_assoc a s.front s.tail);
  many = s.many;
  begins = (s.begins.0, (a, s.front ++ s.begins.0, is_a, s.begins.1, append_assoc a s.front s.begins.0));
  here = λ text u more is agrees alike.
      s.here is.1 u more is.3
      (one is.0 (s.front ++ u) (is.1 ++ more) is.2 (sym (append_assoc a s.front u) ∙ agrees ∙ ap (λ (t : List ℕ). t ++ more) is.4 ∙ append_assoc is.0 is.1 more)) alike;
}

pub same_kind : (A B : List ℕ → Type 0) (bytes : List ℕ) (left : ℕ) → ((text : List ℕ) → A text → B text) → ((text : List ℕ) → B text → A text) → IsStuck A bytes left → IsStuck B bytes left
same_kind A B bytes left to from s = record {
  front = s.front;
  tail = s.tail;
  whole = s.whole;
  many = s.many;
  begins = (s.begins.0, to (s.front ++ s.begins.0) s.begins.1);
  here = λ text u more is. s.here text u more (from text is);
}

pub one_word : (word other x y : List ℕ) → IsWord word other → word ++ x ≡ other ++ y → x ≡ y
one_word word other x y is e = append_cancel_left word x y (e ∙ ap (λ (t : List ℕ). t ++ y) is)

pub one_signed : (most end : ℕ) (v : ℤ) (other x y : List ℕ) → most ≤ 2 ^ 62 → end < 48 → IsTrue (nat_le (unsigned_abs v) most) → IsSigned most end other → (signed_decimal v ++ end ∷ []) ++ x ≡ other ++ y → x ≡ y
one_signed most end v other x y big lt f is e =
    let low = leb-true _ _ f in
    let high = leb-true _ _ is.1 in
    let same : signed_decimal v ++ end ∷ x ≡ signed_decimal is.0 ++ end ∷ y =
    sym (append_assoc (signed_decimal v) (end ∷ []) x) ∙ e ∙ ap (λ (t : List ℕ). t ++ y) is.2 ∙ append_assoc (signed_decimal is.0) (end ∷ []) y in
    (signed_one v is.0 end x y (omega arith) (omega arith) lt same).1

abbrev pub front_word : List ℕ
front_word = codes "qcert 3\nbest "

abbrev pub IsNumbers : List ℕ → Type 0
IsNumbers = Then (IsSigned 1000000000 32) (IsCount 1073741824 10)

abbrev pub IsParts : List ℕ → Type 0
IsParts = Then (IsWord front_word) IsNumbers

pub from_parts : (text : List ℕ) → IsParts text → IsHead text
from_parts text (w, r, is_w, (a, b, (v, f, is_a), (n, l, h, is_b), is_r), e) = (
  v,
  n,
  record { value = f; low = l; high = h },
  e ∙ ap (λ (t : List ℕ). t ++ r) is_w ∙ ap (λ (t : List ℕ). front_word ++ t) (is_r ∙ ap (λ (t : List ℕ). t ++ b) is_a ∙ append_assoc (signed_decimal v) (32 ∷ []) b ∙ ap (λ (t : List ℕ). signed_decimal v ++ 32 ∷ t) is_b),
)

pub to_parts : (text : List ℕ) → IsHead text → IsParts text
to_parts text (v, n, fits, e) = (
  front_word,
  signed_decimal v ++ 32 ∷ (decimal n ++ 10 ∷ []),
  refl,
  (
    signed_decimal v ++ 32 ∷ [],
    decimal n ++ 10 ∷ [],
    (v, fits.value, refl),
    (n, fits.low, fits.high, refl),
    sym (append_assoc (signed_decimal v) (32 ∷ []) (decimal n ++ 10 ∷ [])),
  ),
  e,
)

-- some numbers, for what may follow
pub some_count : IsCount 1073741824 10 (decimal 1 ++ 10 ∷ [])
some_count = (1, omega arith, omega arith, refl)

pub some_numbers : IsNumbers ((signed_decimal (pos 0) ++ 32 ∷ []) ++ (decimal 1 ++ 10 ∷ []))
some_numbers = (signed_decimal (pos 0) ++ 32 ∷ [], decimal 1 ++ 10 ∷ [], (pos 0, refl, refl), some_count, refl)

-- the text of a head, and what stands behind it
pub head_onto : (v : ℤ) (n : ℕ) (rest : List ℕ) → head_text v n ++ rest ≡ front_word ++ (signed_decimal v ++ 32 ∷ (decimal n ++ 10 ∷ rest))
head_onto v n rest =
    append_assoc front_word (signed_decimal v ++ 32 ∷ (decimal n ++ 10 ∷ [])) rest
    ∙ ap (λ (t : List ℕ). front_word ++ t) (append_assoc (signed_decimal v) (32 ∷ (decimal n ++ 10 ∷ [])) rest ∙ ap (λ (t : List ℕ). signed_decimal v ++ 32 ∷ t) (append_assoc (decimal n) (10 ∷ []) rest))

-- how many bytes stand before those that are left
pub left_within : (Text : List ℕ → Type 0) (bytes : List ℕ) (left : ℕ) → IsStuck Text bytes left → left ≤ length bytes
left_within Text bytes left s = let e = ap length s.whole ∙ length-append s.front s.tail in let m = s.many in omega arith

alike_self : (u : List ℕ) → BeginAlike u u
alike_self [] = tt
alike_self (c ∷ u) = refl

here_at : (Text : List ℕ → Type 0) (front tail : List ℕ) → ((text u more : List ℕ) → Text text → front ++ u ≡ text ++ more → BeginAlike u tail → ⊥)
    → length front < length (front ++ tail) → (text rest more : List ℕ) → Text text → take (length front + 1) (front ++ tail) ++ rest ≡ text ++ more → ⊥
here_at Text front [] stops lt text rest more is e = let k = length-append front [] in omega arith
here_at Text front (c ∷ tail) stops lt text rest more is e =
    let cut : take (length front + 1) (front ++ c ∷ tail) ≡ front ++ c ∷ [] =
    ap (take (length front + 1)) (sym (append_assoc front (c ∷ []) tail)) ∙ take_at (front ++ c ∷ []) tail (length front + 1) (length_push front c) in
    stops text (c ∷ rest) more is (sym (append_assoc front (c ∷ []) rest) ∙ ap (λ (t : List ℕ). t ++ rest) (sym cut) ∙ e) refl

place_at : (Text : List ℕ → Type 0) (front tail : List ℕ) → (rest : List ℕ) × Text (front ++ rest) → ((text u more : List ℕ) → Text text → front ++ u ≡ text ++ more → BeginAlike u tail → ⊥)
    → IsPlace Text (length front) (front ++ tail)
place_at Text front tail begins stops = record {
  within = (let k = length-append front tail in omega arith);
  before = (begins.0, subst (λ (t : List ℕ). Text (t ++ begins.0)) (sym (take_at front tail (length front) refl)) begins.1);
  here = here_at Text front tail stops;
  unfinished = λ text more is e. stops text tail more is e (alike_self tail);
}

pub place_of : (Text : List ℕ → Type 0) (bytes : List ℕ) (left : ℕ) → IsStuck Text bytes left → IsPlace Text (length bytes - left) bytes
place_of Text bytes left s =
    let e = ap length s.whole ∙ length-append s.front s.tail in
    let m = s.many in
    let at : length s.front ≡ length bytes - left = omega arith in
    subst (λ (k : ℕ). IsPlace Text k bytes) at (subst (IsPlace Text (length s.front)) (sym s.whole) (place_at Text s.front s.tail s.begins s.here))

-- bytes begin with one head
pub record SameHead (v w : ℤ) (n m : ℕ) (rest more : List ℕ) : Type 0 where
  pub value : v ≡ w
  pub many : n ≡ m
  pub behind : rest ≡ more

pub head_one : (v w : ℤ) (n m : ℕ) (rest more : List ℕ) → HeadFits v n → HeadFits w m → head_text v n ++ rest ≡ head_text w m ++ more → SameHead v w n m rest more
head_one v w n m rest more f g e =
    let low = leb-true _ _ f.value in
    let high = leb-true _ _ g.value in
    let many = f.high in
    let other = g.high in
    let same : signed_decimal v ++ 32 ∷ (decimal n ++ 10 ∷ rest) ≡ signed_decimal w ++ 32 ∷ (decimal m ++ 10 ∷ more) =
    append_cancel_left front_word _ _ (sym (head_onto v n rest) ∙ e ∙ head_onto w m more) in
    let r = signed_one v w 32 (decimal n ++ 10 ∷ rest) (decimal m ++ 10 ∷ more) (omega arith) (omega arith) (omega arith) same in
    let s = number_one n m 10 rest more (omega arith) (omega arith) (omega arith) r.1 in
    record { value = r.0; many = s.0; behind = s.1 }

pub numbers_first : (bytes : List ℕ) (left : ℕ) → IsStuck (IsSigned 1000000000 32) bytes left → IsStuck IsNumbers bytes left
numbers_first bytes left s = in_first (IsSigned 1000000000 32) (IsCount 1073741824 10) bytes left (decimal 1 ++ 10 ∷ []) some_count s

pub numbers_second : (bytes rest : List ℕ) (left : ℕ) (v : ℤ) → bytes ≡ signed_decimal v ++ 32 ∷ rest → IsTrue (nat_le (unsigned_abs v) 1000000000) → IsStuck (IsCount 1073741824 10) rest left → IsStuck IsNumbers bytes left
numbers_second bytes rest left v e f s =
    in_second (IsSigned 1000000000 32) (IsCount 1073741824 10) (signed_decimal v ++ 32 ∷ []) rest bytes left (λ other x y is same. one_signed 1000000000 32 v other x y (omega arith) (omega arith) f is same) (v, f, refl)
    (e ∙ sym (append_assoc (signed_decimal v) (32 ∷ []) rest)) s

pub head_first : (bytes : List ℕ) (left : ℕ) → IsStuck (IsWord front_word) bytes left → IsStuck IsHead bytes left
head_first bytes left s = same_kind IsParts IsHead bytes left from_parts to_parts (in_first (IsWord front_word) IsNumbers bytes left ((signed_decimal (pos 0) ++ 32 ∷ []) ++ (decimal 1 ++ 10 ∷ [])) some_numbers s)

pub head_second : (bytes rest : List ℕ) (left : ℕ) → bytes ≡ front_word ++ rest → IsStuck IsNumbers rest left → IsStuck IsHead bytes left
head_second bytes rest left e s =
    same_kind IsParts IsHead bytes left from_parts to_parts (in_second (IsWord front_word) IsNumbers front_word rest bytes left (λ other x y is same. one_word front_word other x y is same) refl e s)

pub begins_with : (bytes rest : List ℕ) (v : ℤ) (n : ℕ) → HeadFits v n → bytes ≡ head_text v n ++ rest → BeginsWithHead bytes v n (length bytes - length rest)
begins_with bytes rest v n fits e =
    let k = ap length e ∙ length-append (head_text v n) rest in
    record { fits = fits; rest = rest; whole = e; size_is = omega arith }
