-- The number that a word writes, where it is the number's text.
use Rattle.std.proofs.Common.{◌≡◌, ◌≤◌, ◌<◌, ◌^◌, ℕ, ℤ, pos, negsuc, Bool, true, false, List, Some, None, Ok, Err, refl, sym, ap, w64, arith, leb-true}
use Rattle.std.specs.Prelude.{◌&&◌, nat_le, unsigned_abs, if◌then◌else◌, FitsSigned}
use Rattle.std.proofs.lemmas.Fmt.{parse-signed_decimal}
use Rattle.std.proofs.lemmas.Int.{ints}
use Rattle.std.proofs.lemmas.Slice.Eq.{bytes_eq-Decides}
use mir.Val.{SFits}
use lib.Signed.{mag}
use Rattle.std.specs.Fmt.{signed_decimal}
use Rattle.std.specs.Str.{bytes_eq}
use Rattle.std.specs.Str.Parse.{signed_digits_value, without_leading_sign, IsNumeral, ParsesSigned}
use Rattle.part_commands.specs.Words.{value_asked}

pub value_there : (most : ℕ) (word : List ℕ) (value : ℤ) → value ≡ signed_digits_value 10 word →
    (if bytes_eq (signed_decimal value) word && nat_le (unsigned_abs value) most then Some value else None) ≡ value_asked most word
value_there most word value e = ap (λ z. if bytes_eq (signed_decimal z) word && nat_le (unsigned_abs z) most then Some z else None) e

near : (z : ℤ) → unsigned_abs z ≤ 1000000000000000000 → SFits w64 z
near z h = omega (arith, ints)

small : (z : ℤ) → unsigned_abs z ≤ 1000000000000000000 → mag z < 2 ^ 63
small (pos n) h = omega arith
small (negsuc n) h = omega arith

never_both : {T E : Type 0} (x : T) (fault : E) → Err fault ≡ Ok x → ⊥
never_both x fault h = cc

-- the text of a number of that size is read
read_so : (z : ℤ) (word : List ℕ) → unsigned_abs z ≤ 1000000000000000000 → word ≡ signed_decimal z → ¬ (IsNumeral 10 (without_leading_sign word) × FitsSigned w64 (signed_digits_value 10 word)) → ⊥
read_so z word h e fails =
    let parses : ParsesSigned {E = Unit {0}} w64 10 word (Err tt) = fails in
    never_both {E = Unit {0}} z tt (parse-signed_decimal {E = Unit {0}} w64 z word (Err tt) (near z h) (small z h) e parses)

-- a word that isn't read as a number isn't one's text
pub no_value : (most : ℕ) (word : List ℕ) → most ≤ 1000000000000000000 → ¬ (IsNumeral 10 (without_leading_sign word) × FitsSigned w64 (signed_digits_value 10 word)) → None ≡ value_asked most word
no_value most word few fails = by_tests (bytes_eq (signed_decimal (signed_digits_value 10 word)) word) (nat_le (unsigned_abs (signed_digits_value 10 word)) most) refl refl
  where
    by_tests : (same within : Bool) → bytes_eq (signed_decimal (signed_digits_value 10 word)) word ≡ same → nat_le (unsigned_abs (signed_digits_value 10 word)) most ≡ within
        → None ≡ (if same && within then Some (signed_digits_value 10 word) else None)
    by_tests false within e f = refl
    by_tests true false e f = refl
    by_tests true true e f =
        let size : unsigned_abs (signed_digits_value 10 word) ≤ most = leb-true _ _ f in
        absurd (read_so (signed_digits_value 10 word) word (omega arith) (sym ((bytes_eq-Decides _ _).0 e)) fails)
