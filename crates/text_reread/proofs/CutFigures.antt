-- Numbers are read back from the digits that they are written in.
use Rattle.std.proofs.Common.{◌≡◌, ◌==◌, ◌≤◌, ◌<◌, ◌^◌, ◌&&◌, ◌||◌, ◌++◌, ℕ, suc, pos, negsuc, neg_ℤ, arith, refl, sym, ap, ◌∙◌, subst, Bool, true, cond, List, [], ◌∷◌, length, Some, None, leb, leb-true, le-leb, lt-ltb}
use Rattle.std.specs.Prelude.{IsTrue, ℤ, nat_le, nat_lt}
use Rattle.std.specs.Char.{is_ascii_digit}
use Rattle.std.specs.Int.{IsInRange}
use Rattle.std.specs.List.{list_all}
use Rattle.std.specs.Fmt.{decimal, signed_decimal}
use Rattle.std.specs.Str.Parse.{AllDigits, digits_value}
use Rattle.std.proofs.lemmas.Bool.{and_from, and_parts}
use Rattle.std.proofs.lemmas.Fmt.{decimal_is_IsNumeral}
use Rattle.std.proofs.lemmas.Str.Parse.{digit_from_value}
use Rattle.qc_model.specs.Names.{is_word_byte}
use Rattle.qc_model.specs.Valid.{is_number}
use Rattle.qc_tokens.specs.Tokens.{begins_with, begins_number, positive_of, negative_of, number_of}
use Rattle.text_reread.proofs.CutBytes.{differs, digit_in_word}

-- bytes whose values are below ten are digits
digits_pass : (ds : List ℕ) → AllDigits 10 ds → list_all is_ascii_digit ds ≡ true
digits_pass [] h = refl
digits_pass (c ∷ cs) h =
    let range : IsInRange 48 57 c = digit_from_value c h.0 in
    and_from (is_ascii_digit c) (list_all is_ascii_digit cs) (and_from (leb 48 c) (leb c 57) (le-leb 48 c range.0) (le-leb c 57 range.1)) (digits_pass cs h.1)

-- digits go on as a word does
digits_in_word : (ds : List ℕ) → list_all is_ascii_digit ds ≡ true → list_all is_word_byte ds ≡ true
digits_in_word [] h = refl
digits_in_word (c ∷ cs) h =
    let k = and_parts (is_ascii_digit c) (list_all is_ascii_digit cs) h in
    and_from (is_word_byte c) (list_all is_word_byte cs) (digit_in_word c k.0) (digits_in_word cs k.1)

-- a digit and more digits, and their value
pub record Digits (n : ℕ) (ds : List ℕ) : Type 0 where
  pub first : ℕ
  pub later : List ℕ
  pub is : ds ≡ first ∷ later
  pub digit : is_ascii_digit first ≡ true
  pub all : list_all is_ascii_digit ds ≡ true
  pub in_word : list_all is_word_byte ds ≡ true
  pub later_in_word : list_all is_word_byte later ≡ true
  pub value : digits_value 10 ds ≡ n

-- digits, of which there is one at least
some_digits : (n : ℕ) (ds : List ℕ) → 0 < length ds → list_all is_ascii_digit ds ≡ true → digits_value 10 ds ≡ n → Digits n ds
some_digits n [] h all value = absurd (omega arith)
some_digits n (c ∷ cs) h all value =
    let k = and_parts (is_ascii_digit c) (list_all is_ascii_digit cs) all in
    record { first = c; later = cs; is = refl; digit = k.0; all = all; in_word = digits_in_word (c ∷ cs) all; later_in_word = digits_in_word cs k.1; value = value }

-- a natural number below 2 ^ 64 is written in such digits
pub decimal_digits : (n : ℕ) → n < 2 ^ 64 → Digits n (decimal n)
decimal_digits n h = let k = decimal_is_IsNumeral n h in some_digits n (decimal n) k.0.0 (digits_pass (decimal n) k.0.1) k.1

-- a number as it is written: its first byte and the others, which begin a number and tell which one
pub record IsFigure (z : ℤ) (run : List ℕ) : Type 0 where
  pub first : ℕ
  pub later : List ℕ
  pub is : run ≡ first ∷ later
  pub digit_or_minus : (is_ascii_digit first || first == 45) ≡ true
  pub begins : (rest : List ℕ) → begins_number first (later ++ rest) ≡ true
  pub in_word : list_all is_word_byte later ≡ true
  pub value : number_of first later ≡ Some z

-- what is chosen where both tests pass
chosen : {A : Type 0} (a b : Bool) (x y : A) → a ≡ true → b ≡ true → cond (a && b) x y ≡ x
chosen a b x y p q = rw (p, q) refl

-- digits are read as the number that they write
without_minus : (n : ℕ) (ds : List ℕ) → n < 2 ^ 63 → Digits n ds → IsFigure (pos n) ds
unfolding number_of
without_minus n ds h d = record {
  first = d.first;
  later = d.later;
  is = d.is;
  digit_or_minus = rw d.digit refl;
  begins = λ rest. rw d.digit refl;
  in_word = d.later_in_word;
  value =
      ap (λ t. cond t (negative_of d.later) (positive_of (d.first ∷ d.later))) (differs is_ascii_digit d.first 45 d.digit refl)
      ∙ ap positive_of (sym d.is)
      ∙ chosen (list_all is_ascii_digit ds) (nat_lt (digits_value 10 ds) (2 ^ 63)) (Some (pos (digits_value 10 ds))) None d.all (lt-ltb _ _ (let v = d.value in omega arith))
      ∙ ap (λ v. Some (pos v)) d.value;
}

-- and behind a minus as that number below zero
with_minus : (n : ℕ) (ds : List ℕ) → suc n ≤ 2 ^ 63 → Digits (suc n) ds → IsFigure (negsuc n) (45 ∷ ds)
unfolding number_of
with_minus n ds h d = record {
  first = 45;
  later = ds;
  is = refl;
  digit_or_minus = refl;
  begins = λ rest. subst (λ l. begins_with is_ascii_digit (l ++ rest) ≡ true) (sym d.is) d.digit;
  in_word = d.in_word;
  value =
      chosen (list_all is_ascii_digit ds) (nat_le (digits_value 10 ds) (2 ^ 63)) (Some (neg_ℤ (pos (digits_value 10 ds)))) None d.all (le-leb _ _ (let v = d.value in omega arith))
      ∙ ap (λ v. Some (neg_ℤ (pos v))) d.value;
}

-- each number of a problem is read back
pub is_figure : (z : ℤ) → IsTrue (is_number z) → IsFigure z (signed_decimal z)
is_figure (pos n) h = let small : n ≤ 1000000000 = leb-true _ _ h in without_minus n (decimal n) (omega arith) (decimal_digits n (omega arith))
is_figure (negsuc n) h = let small : suc n ≤ 1000000000 = leb-true _ _ h in with_minus n (decimal (suc n)) (omega arith) (decimal_digits (suc n) (omega arith))
