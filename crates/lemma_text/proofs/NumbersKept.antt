-- What is read of a number is its text so far, and it can be ended.
use Rattle.std.proofs.Common.{◌≡◌, refl, sym, ap, ◌∙◌, ℕ, zero, suc, ◌+◌, ◌-◌, ◌*◌, ◌^◌, ◌≤◌, ◌<◌, List, [], ◌∷◌, ◌++◌, Bool, true, false, ◌&&◌, ◌||◌, cond, arith, leb-true, le-leb}
use Rattle.std.specs.Prelude.{ℤ, pos, negsuc, nat_le, nat_eq, unsigned_abs}
use Rattle.std.specs.Fmt.{decimal, signed_decimal}
use Rattle.std.proofs.lemmas.Fmt.{decimal_digit}
use Rattle.std.proofs.lemmas.Bool.{and_parts, eqb-true}
use Rattle.std.proofs.lemmas.List.{append-nil}
use Rattle.proof_text.proofs.Digits.{decimal_value}
use Rattle.lemma_text.specs.declared.parts.Field.{Field}
use Rattle.lemma_text.specs.declared.parts.Field.TheVariants.{Variable, Constraint, Named, Scope, Node, Turns, Value, Total}
use Rattle.lemma_text.specs.declared.parts.Numeral.{Numeral}
use Rattle.lemma_text.specs.declared.parts.Numeral.TheVariants.{Start, Minus, Zero, Digits}
use Rattle.lemma_text.specs.Numerals.{most, is_signed, is_counted, value_fits, signed_of, Reading, further, ended, bad, finished, first_digit, next_digit, first_sign, continued, reading, numeral_text, IsSigned, FitsNumeral}

pub most_goes_far : (g : Field) → (9 ≤ most g) × (most g < 2 ^ 63)
most_goes_far Variable = (omega arith, omega arith)
most_goes_far Constraint = (omega arith, omega arith)
most_goes_far Named = (omega arith, omega arith)
most_goes_far Scope = (omega arith, omega arith)
most_goes_far Node = (omega arith, omega arith)
most_goes_far Turns = (omega arith, omega arith)
most_goes_far Value = (omega arith, omega arith)
most_goes_far Total = (omega arith, omega arith)

-- a reading says the truth
abbrev pub ReadingKept : Field → Numeral → ℕ → Reading → Type 0
ReadingKept g n b (further m) = FitsNumeral g m × (numeral_text m ≡ numeral_text n ++ b ∷ [])
ReadingKept g n b (ended z) = (value_fits g z ≡ true) × (numeral_text n ≡ signed_decimal z) × ((nat_eq b 32 || nat_eq b 10) ≡ true)
ReadingKept g n b bad = Unit {0}

by_test : (g : Field) (n : Numeral) (b : ℕ) (t : Bool) (x y : Reading) → (t ≡ true → ReadingKept g n b x) → (t ≡ false → ReadingKept g n b y) → ReadingKept g n b (cond t x y)
by_test g n b true x y f h = f refl
by_test g n b false x y f h = h refl

pub letter_is : (b c : ℕ) → nat_eq b c ≡ true → c ∷ [] ≡ b ∷ []
letter_is b c e = ap (λ (x : ℕ). x ∷ []) (sym (eqb-true b c e))

same_both : (t x : Bool) → x ≡ true → cond t x x ≡ true
same_both true x h = h
same_both false x h = h

signed_fits : (g : Field) (z : ℤ) → is_signed g ≡ true → nat_le (unsigned_abs z) (most g) ≡ true → value_fits g z ≡ true
signed_fits g z s h = ap (λ (t : Bool). cond t (nat_le (unsigned_abs z) (most g)) (is_counted (most g) z)) s ∙ h

counted_fits : (g : Field) (k : ℕ) → suc k ≤ most g → value_fits g (pos (suc k)) ≡ true
counted_fits g k h = same_both (is_signed g) (nat_le (suc k) (most g)) (le-leb (suc k) (most g) h)

digits_end : (g : Field) (negative : Bool) (v : ℕ) → IsSigned negative g → 1 ≤ v → v ≤ most g → (value_fits g (signed_of negative v) ≡ true) × (numeral_text (Digits negative v) ≡ signed_decimal (signed_of negative v))
digits_end g false zero s low high = absurd (omega arith)
digits_end g false (suc k) s low high = (counted_fits g k high, refl)
digits_end g true zero s low high = absurd (omega arith)
digits_end g true (suc k) s low high = (signed_fits g (negsuc k) s (le-leb (suc k) (most g) high), refl)

zero_ends : (g : Field) → is_signed g ≡ true → (value_fits g (pos zero) ≡ true) × (numeral_text Zero ≡ signed_decimal (pos zero))
zero_ends g s = (signed_fits g (pos zero) s (le-leb 0 (most g) (omega arith)), sym (decimal_digit 0 (omega arith)))

finished_kept : (g : Field) (n : Numeral) (b : ℕ) → FitsNumeral g n → (nat_eq b 32 || nat_eq b 10) ≡ true → ReadingKept g n b (finished n)
finished_kept g Start b f e = tt
finished_kept g Minus b f e = tt
finished_kept g Zero b f e = let z = zero_ends g f in (z.0, z.1, e)
finished_kept g (Digits negative v) b f e = let d = digits_end g negative v f.0 f.1 f.2 in (d.0, d.1, e)

-- digits that follow what is there
first_text : (b : ℕ) → 49 ≤ b → b ≤ 57 → decimal (b - 48) ≡ b ∷ []
first_text b low high = let back : 48 + (b - 48) ≡ b = omega arith in decimal_digit (b - 48) (omega arith) ∙ ap (λ (x : ℕ). x ∷ []) back

start_digit : (g : Field) (b : ℕ) → ReadingKept g Start b (first_digit false b)
start_digit g b = by_test g Start b (nat_le 49 b && nat_le b 57) (further (Digits false (b - 48))) bad
    (λ t. let p = and_parts _ _ t in let low = leb-true 49 b p.0 in let high = leb-true b 57 p.1 in let far = (most_goes_far g).0 in ((tt, omega arith, omega arith), first_text b low high)) (λ t. tt)

minus_digit : (g : Field) (b : ℕ) → is_signed g ≡ true → ReadingKept g Minus b (first_digit true b)
minus_digit g b s = by_test g Minus b (nat_le 49 b && nat_le b 57) (further (Digits true (b - 48))) bad
    (λ t. let p = and_parts _ _ t in let low = leb-true 49 b p.0 in let high = leb-true b 57 p.1 in let far = (most_goes_far g).0 in ((s, omega arith, omega arith), ap (λ (u : List ℕ). 45 ∷ u) (first_text b low high))) (λ t. tt)

more_text : (negative : Bool) (v w b : ℕ) → decimal w ≡ decimal v ++ b ∷ [] → numeral_text (Digits negative w) ≡ numeral_text (Digits negative v) ++ b ∷ []
more_text false v w b h = h
more_text true v w b h = ap (λ (u : List ℕ). 45 ∷ u) h

digit_kept : (g : Field) (negative : Bool) (v b : ℕ) → FitsNumeral g (Digits negative v) → ReadingKept g (Digits negative v) b (next_digit g negative v b)
digit_kept g negative v b f = by_test g (Digits negative v) b (nat_le 48 b && nat_le b 57 && nat_le (10 * v + (b - 48)) (most g)) (further (Digits negative (10 * v + (b - 48)))) bad
    (λ t.
    let p = and_parts _ _ t in let q = and_parts _ _ p.0 in
    let low = leb-true 48 b q.0 in let high = leb-true b 57 q.1 in let within = leb-true (10 * v + (b - 48)) (most g) p.1 in
    let one = f.1 in let far = (most_goes_far g).1 in
    ((f.0, omega arith, within), more_text negative v (10 * v + (b - 48)) b (decimal_value v (b ∷ []) one (low, high, tt) (omega arith)))) (λ t. tt)

sign_kept : (g : Field) (b : ℕ) → is_signed g ≡ true → ReadingKept g Start b (first_sign b)
sign_kept g b s = by_test g Start b (nat_eq b 45) (further Minus) (cond (nat_eq b 48) (further Zero) (first_digit false b)) (λ e. (s, letter_is b 45 e))
    (λ e. by_test g Start b (nat_eq b 48) (further Zero) (first_digit false b) (λ z. (s, letter_is b 48 z)) (λ z. start_digit g b))

continued_kept : (g : Field) (n : Numeral) (b : ℕ) → FitsNumeral g n → ReadingKept g n b (continued g n b)
continued_kept g Start b f = by_test g Start b (is_signed g) (first_sign b) (first_digit false b) (λ s. sign_kept g b s) (λ s. start_digit g b)
continued_kept g Minus b f = minus_digit g b f
continued_kept g Zero b f = tt
continued_kept g (Digits negative v) b f = digit_kept g negative v b f

pub reading_kept : (g : Field) (n : Numeral) (b : ℕ) → FitsNumeral g n → ReadingKept g n b (reading g n b)
reading_kept g n b f = by_test g n b (nat_eq b 32 || nat_eq b 10) (finished n) (continued g n b) (λ e. finished_kept g n b f e) (λ e. continued_kept g n b f)

-- a number of the field that begins so
pub record Ends (g : Field) (n : Numeral) : Type 0 where
  pub more : List ℕ
  pub z : ℤ
  pub fits : value_fits g z ≡ true
  pub text : signed_decimal z ≡ numeral_text n ++ more

pub one_fits : (g : Field) → value_fits g (pos (suc zero)) ≡ true
one_fits g = let far = (most_goes_far g).0 in counted_fits g zero (omega arith)

pub ends : (g : Field) (n : Numeral) → FitsNumeral g n → Ends g n
ends g Start f = record { more = 49 ∷ []; z = pos (suc zero); fits = one_fits g; text = decimal_digit 1 (omega arith) }
ends g Minus f =
    let far = (most_goes_far g).0 in
    record { more = 49 ∷ []; z = negsuc zero; fits = signed_fits g (negsuc zero) f (le-leb 1 (most g) (omega arith)); text = ap (λ (u : List ℕ). 45 ∷ u) (decimal_digit 1 (omega arith)) }
ends g Zero f = let e = zero_ends g f in record { more = []; z = pos zero; fits = e.0; text = sym e.1 }
ends g (Digits negative v) f =
    let e = digits_end g negative v f.0 f.1 f.2 in
    record { more = []; z = signed_of negative v; fits = e.0; text = sym e.1 ∙ sym (append-nil (numeral_text (Digits negative v))) }
