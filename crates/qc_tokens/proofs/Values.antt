-- The values of numbers.
use Rattle.std.proofs.Common.{◌≡◌, ◌⊎◌, inl, inr, ◌≤◌, ◌<◌, ◌^◌, ◌==◌, ◌&&◌, ◌||◌, ℕ, zero, suc, pos, neg_ℤ, w64, arith, refl, List, [], ◌∷◌, ap, ◌∙◌, sym, subst, Bool, true, false, cond, length, Some, None, leb, leb-true, le-leb, ltb-true, lt-ltb, eqb-true, ne_eqb, take, ◌+◌}
use Rattle.std.specs.Prelude.{FitsSigned}
use Rattle.std.specs.Char.{is_ascii_digit}
use Rattle.std.specs.Int.{IsInRange}
use Rattle.std.specs.List.{list_all, prefix_len}
use Rattle.std.specs.Str.{IsUtf8, IsAscii}
use Rattle.std.specs.Str.Parse.{AllDigits, IsNumeral, digits_value, signed_digits_value, without_leading_sign}
use Rattle.std.proofs.lemmas.Bool.Decides.{nat_tests}
use Rattle.std.proofs.lemmas.Str.{IsUtf8-from_ascii, digit_value_digit}
use Rattle.std.proofs.lemmas.Str.Parse.{digit_from_value}
use Rattle.std.proofs.lemmas.Bool.{and_parts, or_cases}
use Rattle.std.proofs.lemmas.Fmt.{IsAscii-from_digits}
use Rattle.qc_model.specs.Names.{is_first_byte, is_word_byte}
use Rattle.qc_tokens.specs.Tokens.{begins_with, begins_number, positive_of, negative_of, number_of}
use Rattle.qc_tokens.specs.Inner.{is_numeral, value_of_run}

yes : {A : Type 0} (a b : Bool) (x y : A) → a ≡ true → b ≡ true → cond (a && b) x y ≡ x
yes a b x y p q = rw (p, q) refl

no : {A : Type 0} (a b : Bool) (x y : A) → (a ≡ true → b ≡ true → ⊥) → cond (a && b) x y ≡ y
no true true x y never = absurd (never refl refl)
no true false x y never = refl
no false b x y never = refl

digit_means : (c : ℕ) → is_ascii_digit c ≡ true → IsInRange 48 57 c
digit_means c e = let k = and_parts (leb 48 c) (leb c 57) e in (leb-true 48 c k.0, leb-true c 57 k.1)

digit_passes : (c : ℕ) → IsInRange 48 57 c → is_ascii_digit c ≡ true
digit_passes c r = grind (arith, nat_tests)

digits_mean : (ds : List ℕ) → list_all is_ascii_digit ds ≡ true → AllDigits 10 ds
digits_mean [] e = tt
digits_mean (c ∷ cs) e =
    let k = and_parts (is_ascii_digit c) (list_all is_ascii_digit cs) e in
    let r = digit_means c k.0 in
    (omega (arith, digit_value_digit c r), digits_mean cs k.1)

digits_pass : (ds : List ℕ) → AllDigits 10 ds → list_all is_ascii_digit ds ≡ true
digits_pass [] h = refl
digits_pass (c ∷ cs) h = rw (digit_passes c (digit_from_value c h.0), digits_pass cs h.1) refl

minus_low : (ds : List ℕ) → AllDigits 10 ds → IsAscii (45 ∷ ds)
minus_low ds h zero = omega arith
minus_low ds h (suc i) = IsAscii-from_digits ds h i

negative_fits : (n : ℕ) → n ≤ 2 ^ 63 → FitsSigned w64 (neg_ℤ (pos n))
negative_fits zero h = record { sfits = omega arith }
negative_fits (suc n) h = record { sfits = omega arith }

fits_negative : (n : ℕ) → FitsSigned w64 (neg_ℤ (pos n)) → n ≤ 2 ^ 63
fits_negative zero h = omega arith
fits_negative (suc n) h = let k = h.sfits in omega arith

negative-some : (ds : List ℕ) → AllDigits 10 ds → digits_value 10 ds ≤ 2 ^ 63 → negative_of ds ≡ Some (neg_ℤ (pos (digits_value 10 ds)))
negative-some ds a h = yes _ _ _ _ (digits_pass ds a) (le-leb _ _ h)

negative-none : (ds : List ℕ) → (AllDigits 10 ds → digits_value 10 ds ≤ 2 ^ 63 → ⊥) → negative_of ds ≡ None
negative-none ds never = no _ _ _ _ (λ a b. never (digits_mean ds a) (leb-true _ _ b))

positive-some : (ds : List ℕ) → AllDigits 10 ds → digits_value 10 ds < 2 ^ 63 → positive_of ds ≡ Some (pos (digits_value 10 ds))
positive-some ds a h = yes _ _ _ _ (digits_pass ds a) (lt-ltb _ _ h)

positive-none : (ds : List ℕ) → (AllDigits 10 ds → digits_value 10 ds < 2 ^ 63 → ⊥) → positive_of ds ≡ None
positive-none ds never = no _ _ _ _ (λ a b. never (digits_mean ds a) (ltb-true _ _ b))

-- what `parse` reads
abbrev pub IsRead : List ℕ → Type 0
IsRead run = IsNumeral 10 (without_leading_sign run) × FitsSigned w64 (signed_digits_value 10 run)

-- that it is `number_of`, and only of texts
record IsSame (b : ℕ) (bs : List ℕ) : Type 0 where
  some : IsRead (b ∷ bs) → number_of b bs ≡ Some (signed_digits_value 10 (b ∷ bs))
  none : (IsRead (b ∷ bs) → ⊥) → number_of b bs ≡ None
  text : IsRead (b ∷ bs) → IsUtf8 (b ∷ bs)

minus : (bs : List ℕ) → 0 < length bs → IsSame 45 bs
unfolding number_of
minus bs h = record {
  some = λ r. negative-some bs r.0.1 (fits_negative _ r.1);
  none = λ never. negative-none bs (λ a b. never ((h, a), negative_fits _ b));
  text = λ r. IsUtf8-from_ascii _ (minus_low bs r.0.1);
}

record IsPlain (b : ℕ) (bs : List ℕ) : Type 0 where
  first : (b == 45) ≡ false
  digits : without_leading_sign (b ∷ bs) ≡ b ∷ bs
  value : signed_digits_value 10 (b ∷ bs) ≡ pos (digits_value 10 (b ∷ bs))

plain : (b : ℕ) (bs : List ℕ) → is_ascii_digit b ≡ true → IsPlain b bs
plain b bs e =
    let k = digit_means b e in
    let hyphen : (b == 45) ≡ false = ne_eqb b 45 (λ e. omega arith) in
    let plus : (b == 43) ≡ false = ne_eqb b 43 (λ e. omega arith) in
    record { first = hyphen; digits = rw (hyphen, plus) refl; value = rw (hyphen, plus) refl }

digit : (b : ℕ) (bs : List ℕ) → is_ascii_digit b ≡ true → IsSame b bs
unfolding number_of
digit b bs e =
    let p = plain b bs e in
    let fits : FitsSigned w64 (signed_digits_value 10 (b ∷ bs)) → digits_value 10 (b ∷ bs) < 2 ^ 63 = λ f. (subst (FitsSigned w64) p.value f).sfits in
    let are : IsNumeral 10 (without_leading_sign (b ∷ bs)) → AllDigits 10 (b ∷ bs) = λ n. subst (AllDigits 10) p.digits n.1 in
    let same : number_of b bs ≡ positive_of (b ∷ bs) = ap (λ t. cond t (negative_of bs) (positive_of (b ∷ bs))) p.first in
    record {
      some = λ r. same ∙ positive-some (b ∷ bs) (are r.0) (fits r.1) ∙ ap Some (sym p.value);
      none = λ never. same ∙ positive-none (b ∷ bs) (λ a v. never (subst (IsNumeral 10) (sym p.digits) (omega arith, a), subst (FitsSigned w64) (sym p.value) (record { sfits = v })));
      text = λ r. IsUtf8-from_ascii _ (IsAscii-from_digits (b ∷ bs) (are r.0));
    }

same_at : (b : ℕ) (bs : List ℕ) → begins_number b bs ≡ true → IsSame b bs
same_at b bs h = elim (or_cases (is_ascii_digit b) _ h) [
  | inl e ↦ digit b bs e
  | inr e ↦ (
      let k = and_parts (b == 45) (begins_with is_ascii_digit bs) e in
      subst (λ x. IsSame x bs) (sym (eqb-true b 45 k.0)) (minus bs (some_digit bs k.1)))
]
  where
    some_digit : (bs : List ℕ) → begins_with is_ascii_digit bs ≡ true → 0 < length bs
    some_digit [] e = absurd cc
    some_digit (c ∷ cs) e = omega arith

pub read-some : (run : List ℕ) → is_numeral run ≡ true → IsRead run → value_of_run run ≡ Some (signed_digits_value 10 run)
read-some [] h r = absurd cc
read-some (b ∷ bs) h r = (same_at b bs h).some r

pub read-none : (run : List ℕ) → is_numeral run ≡ true → (IsRead run → ⊥) → value_of_run run ≡ None
read-none [] h never = absurd cc
read-none (b ∷ bs) h never = (same_at b bs h).none never

pub read-text : (run : List ℕ) → is_numeral run ≡ true → IsRead run → IsUtf8 run
read-text [] h r = absurd cc
read-text (b ∷ bs) h r = (same_at b bs h).text r

-- a run that begins a number goes on with a digit after a minus

goes_on : (bs : List ℕ) → begins_with is_ascii_digit bs ≡ true → begins_with is_ascii_digit (take (prefix_len is_word_byte bs) bs) ≡ true
goes_on [] e = e
goes_on (c ∷ cs) e =
    let in_word : is_word_byte c ≡ true = last (is_first_byte c) _ e in
    let n : 1 + prefix_len is_word_byte cs ≡ suc (prefix_len is_word_byte cs) = omega arith in
    rw (in_word, n) e
  where
    last : (a b : Bool) → b ≡ true → (a || b) ≡ true
    last true b h = refl
    last false b h = h

run_begins : (b : ℕ) (bs : List ℕ) → begins_number b bs ≡ true → begins_number b (take (prefix_len is_word_byte bs) bs) ≡ true
run_begins b bs h = by (is_ascii_digit b) (b == 45) _ _ (goes_on bs) h
  where
    by : (a c p q : Bool) → (p ≡ true → q ≡ true) → (a || (c && p)) ≡ true → (a || (c && q)) ≡ true
    by true c p q f e = refl
    by false true p q f e = f e
    by false false p q f e = e

whole_run : (text : List ℕ) (b : ℕ) (bs : List ℕ) (m : ℕ) → text ≡ b ∷ bs → take (m + 1) text ≡ b ∷ take m bs
whole_run text b bs m e = let n : m + 1 ≡ suc m = omega arith in rw (e, n) refl

pub run_is_numeral : (text : List ℕ) (b : ℕ) (bs : List ℕ) (m : ℕ) → text ≡ b ∷ bs → m ≡ prefix_len is_word_byte bs → begins_number b bs ≡ true → is_numeral (take (m + 1) text) ≡ true
run_is_numeral text b bs m e n h =
    rw (whole_run text b bs m e) (subst (λ k. begins_number b (take k bs) ≡ true) (sym n) (run_begins b bs h))

pub value_of_its_run : (text : List ℕ) (b : ℕ) (bs : List ℕ) (m : ℕ) → text ≡ b ∷ bs → m ≡ prefix_len is_word_byte bs → value_of_run (take (m + 1) text) ≡ number_of b (take (prefix_len is_word_byte bs) bs)
value_of_its_run text b bs m e n = rw (whole_run text b bs m e) (ap (λ k. number_of b (take k bs)) n)
