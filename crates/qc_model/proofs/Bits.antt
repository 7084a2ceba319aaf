-- Signed numbers that are the same where their bits are.
use Rattle.std.proofs.Common.{◌≡◌, refl, ap, ◌∙◌, sym, Bool, true, false, nat_eq, ℤ, of_z, w64, to_z, rules}
use Rattle.std.specs.Prelude.{pos}
use Rattle.std.specs.Ordering.{int_eq}
use Rattle.std.proofs.lemmas.Bool.{eqb-true, eq-eqb, ne_eqb, false_from_ne_true}
use Rattle.std.proofs.lemmas.Bool.Decides.{Decides-int_eq}
use Rattle.std.proofs.lemmas.Int.{to_z-of_z}
use mir.Val.{SFits}

-- numbers are equal where their bits are equal
pub same_bits : (p z : ℤ) → SFits w64 p → SFits w64 z → nat_eq (of_z w64 p) (of_z w64 z) ≡ int_eq p z
same_bits p z f g = by (nat_eq (of_z w64 p) (of_z w64 z)) refl
  where
    clash : (b : Bool) → b ≡ false → b ≡ true → ⊥
    clash true e h = cc
    clash false e h = cc

    by : (b : Bool) → nat_eq (of_z w64 p) (of_z w64 z) ≡ b → b ≡ int_eq p z
    by true e = sym ((Decides-int_eq p z).1 (sym (to_z-of_z w64 p f) ∙ (ap (to_z w64) (eqb-true (of_z w64 p) (of_z w64 z) e) ∙ to_z-of_z w64 z g)))
    by false e = sym (false_from_ne_true (int_eq p z) (λ h. clash (nat_eq (of_z w64 p) (of_z w64 z)) e (eq-eqb (of_z w64 p) (of_z w64 z) (ap (of_z w64) ((Decides-int_eq p z).0 h)))))

-- and a number is 1 where its bits are
pub one_bit : (z : ℤ) → SFits w64 z → nat_eq (of_z w64 z) 1 ≡ int_eq z (pos 1)
one_bit z f = same_bits z (pos 1) f (search rules)

-- what a test of two numbers shows
pub bits_same : (p z : ℤ) → SFits w64 p → SFits w64 z → of_z w64 p ≡ of_z w64 z → int_eq p z ≡ true
bits_same p z f g e = sym (same_bits p z f g) ∙ eq-eqb (of_z w64 p) (of_z w64 z) e

pub bits_differ : (p z : ℤ) → SFits w64 p → SFits w64 z → (of_z w64 p ≡ of_z w64 z → ⊥) → int_eq p z ≡ false
bits_differ p z f g n = sym (same_bits p z f g) ∙ ne_eqb (of_z w64 p) (of_z w64 z) n
