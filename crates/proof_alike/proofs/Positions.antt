-- The values of variables at a position.
use Rattle.std.proofs.Common.{◌≡◌, ℕ, zero, suc, ◌<◌, ◌≤◌, Bool, true, false, [], ◌∷◌, length, map, take, refl, sym, ap, ◌∙◌, arith, ℤ, pos, Some}
use Rattle.std.specs.Prelude.{nat_lt, slice_get, slice_index_or}
use Rattle.std.proofs.lemmas.Bool.Decides.{nat_tests}
use Rattle.qc_model.specs.Domains.{Box, values_left, least_value}

-- a variable among the first n, and one past them
pub early_value : (n x : ℕ) (a : Box) → x < n → slice_index_or (map least_value (take n a)) x (pos 0) ≡ least_value (values_left a x)
early_value zero x a h = absurd (omega arith)
early_value (suc n) x [] h = refl
early_value (suc n) zero (d ∷ a) h = refl
early_value (suc n) (suc x) (d ∷ a) h = early_value n x a (omega arith)

late_value : (n x : ℕ) (a : Box) → n ≤ x → slice_index_or (map least_value (take n a)) x (pos 0) ≡ pos 0
late_value zero x a h = refl
late_value (suc n) x [] h = refl
late_value (suc n) zero (d ∷ a) h = absurd (omega arith)
late_value (suc n) (suc x) (d ∷ a) h = late_value n x a (omega arith)

pub value_same : (n x : ℕ) (a b : Box) → values_left a x ≡ values_left b x →
    slice_index_or (map least_value (take n a)) x (pos 0) ≡ slice_index_or (map least_value (take n b)) x (pos 0)
value_same n x a b h = by (nat_lt x n) refl
  where
    early : (m k : ℕ) → nat_lt m k ≡ true → m < k
    early m k e = grind (arith, nat_tests)

    late : (m k : ℕ) → nat_lt m k ≡ false → k ≤ m
    late m k e = grind (arith, nat_tests)

    by : (p : Bool) → nat_lt x n ≡ p → slice_index_or (map least_value (take n a)) x (pos 0) ≡ slice_index_or (map least_value (take n b)) x (pos 0)
    by true e = early_value n x a (early x n e) ∙ ap least_value h ∙ sym (early_value n x b (early x n e))
    by false e = late_value n x a (late x n e) ∙ sym (late_value n x b (late x n e))

-- a variable that has a value
pub record HasValue (a : Box) (x : ℕ) (z : ℤ) : Type 0 where
  pub inside : x < length a
  pub least : least_value (values_left a x) ≡ z

pub has_value_at : (n x : ℕ) (a : Box) (z : ℤ) → slice_get (map least_value (take n a)) x ≡ Some z → HasValue a x z
has_value_at zero x a z e = cc
has_value_at (suc n) x [] z e = cc
has_value_at (suc n) zero (d ∷ a) z e = record { inside = omega arith; least = cc }
has_value_at (suc n) (suc x) (d ∷ a) z e = let r = has_value_at n x a z e in record { inside = let h = r.inside in omega arith; least = r.least }
