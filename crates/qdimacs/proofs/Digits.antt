-- The values of digits.
use Rattle.std.proofs.Common.{◌≡◌, ◌≤◌, ◌<◌, ◌+◌, ◌-◌, ◌*◌, ◌^◌, ◌&&◌, ℕ, arith, List, [], ◌∷◌, ap, ◌∙◌, sym, true, cond, length, take, get_or, leb, leb-true, le-leb, Some, None}
use Rattle.std.specs.Char.{is_ascii_digit}
use Rattle.std.specs.Int.{IsInRange}
use Rattle.std.specs.List.{list_all}
use Rattle.std.specs.Str.Parse.{AllDigits, digits_value}
use Rattle.std.proofs.lemmas.Bool.{and_parts, and_from}
use Rattle.std.proofs.lemmas.Int.Digits.{digits_value_more}
use Rattle.std.proofs.lemmas.Str.{digit_value_digit}
use Rattle.std.proofs.lemmas.Str.Parse.{digit_at, digits_value_short, digits_value-take-le, numerals_by_value, tells_digits}
use Rattle.qdimacs.specs.Tokens.{is_number, number_of}

pub digits_mean : (ds : List ℕ) → list_all is_ascii_digit ds ≡ true → AllDigits 10 ds
digits_mean [] e = tt
digits_mean (c ∷ cs) e =
    let k = and_parts (is_ascii_digit c) (list_all is_ascii_digit cs) e in
    let l = and_parts (leb 48 c) (leb c 57) k.0 in
    let r : IsInRange 48 57 c = (leb-true 48 c l.0, leb-true c 57 l.1) in
    (omega (arith, digit_value_digit c r), digits_mean cs k.1)

-- one digit more
pub value_more : (ds : List ℕ) (i v : ℕ) → list_all is_ascii_digit ds ≡ true → i < length ds → v ≡ digits_value 10 (take i ds) →
    v * 10 + (get_or ds i 0 - 48) ≡ digits_value 10 (take (i + 1) ds)
value_more ds i v h lt e =
    let r = digit_at ds i (digits_mean ds h) lt in
    let d = digit_value_digit (get_or ds i 0) r in
    let m = digits_value_more 10 ds i lt in
    omega (arith, d, m, e)

pub value_small : (ds : List ℕ) (i : ℕ) → list_all is_ascii_digit ds ≡ true → length ds ≤ 9 → digits_value 10 (take i ds) < 10 ^ 9
value_small ds i h n =
    let a = digits_value-take-le 10 ds i (omega arith) in
    let b = digits_value_short (numerals_by_value (AllDigits 10) tells_digits) ds 9 (digits_mean ds h) n in
    omega (arith, a, b)

-- a digit from 1 to 9 is a digit
pub first_digit : (d : ℕ) → 49 ≤ d → d ≤ 57 → is_ascii_digit d ≡ true
first_digit d a b = and_from (leb 48 d) (leb d 57) (le-leb 48 d (omega arith)) (le-leb d 57 b)

pub is_number_from : (w : List ℕ) (d : ℕ) (ds : List ℕ) (v : ℕ) → w ≡ d ∷ ds → 49 ≤ d → d ≤ 57 → length ds ≤ 8 → list_all is_ascii_digit ds ≡ true → v ≡ digits_value 10 w → Some v ≡ number_of w
is_number_from w d ds v e a b n h is =
    ap Some is
    ∙ sym (ap (λ t. cond t (Some (digits_value 10 w)) None)
    (ap is_number e
    ∙ and_from (leb 49 d && leb d 57 && leb (length ds) 8) (list_all is_ascii_digit ds)
    (and_from (leb 49 d && leb d 57) (leb (length ds) 8) (and_from (leb 49 d) (leb d 57) (le-leb 49 d a) (le-leb d 57 b)) (le-leb (length ds) 8 n)) h))

pub all_digits_from : (w : List ℕ) (d : ℕ) (ds : List ℕ) → w ≡ d ∷ ds → 49 ≤ d → d ≤ 57 → list_all is_ascii_digit ds ≡ true → list_all is_ascii_digit w ≡ true
all_digits_from w d ds e a b h = ap (list_all is_ascii_digit) e ∙ and_from (is_ascii_digit d) (list_all is_ascii_digit ds) (first_digit d a b) h
