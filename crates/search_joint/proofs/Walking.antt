-- Going over the values of a variable from the least on.
use Rattle.std.proofs.Common.{◌≡◌, ◌<◌, Bool, true, false, refl, sym, subst, arith, ℤ}
use Rattle.std.specs.Prelude.{int_le, int_lt, nat_abs, pos, negsuc, ◌+ℤ◌, ◌-ℤ◌}
use Rattle.std.specs.Ordering.{int_eq}
use Rattle.std.proofs.lemmas.Int.{ints}
use Rattle.std.proofs.lemmas.Bool.Decides.{nat_tests, Decides-int_eq}
use Rattle.qc_model.specs.Domains.{Values, has_value}
use Rattle.qc_model.specs.Valid.{is_number}
use Rattle.search_joint.specs.Narrowed.{AreAmong}
use Rattle.search_joint.proofs.Among.{IsFirstFrom}

-- no number is below the least
pub none_lower : (v : ℤ) → is_number v ≡ true → int_lt v (negsuc 999999999) ≡ true → ⊥
none_lower v n l = grind (arith, nat_tests, ints)

-- the values up to the one that was looked at are among the others
pub below_next : (olds news others : Values) (at v next : ℤ) → next ≡ v +ℤ pos 1 → IsFirstFrom olds at v → AreAmong news olds → (has_value news v ≡ true → has_value others v ≡ true) →
    ((u : ℤ) → has_value olds u ≡ true → int_lt u at ≡ true → has_value others u ≡ true) → (u : ℤ) → has_value news u ≡ true → int_lt u next ≡ true → has_value others u ≡ true
below_next olds news others at v next e f a m b u h l = by (int_lt u at) refl
  where
    from : int_lt u at ≡ false → int_le at u ≡ true
    from k = grind (arith, ints)

    same : (next : ℤ) → next ≡ v +ℤ pos 1 → int_lt u next ≡ true → int_le v u ≡ true → int_eq v u ≡ true
    same next e l k = let q : int_lt u (v +ℤ pos 1) ≡ true = subst (λ z. int_lt u z ≡ true) e l in grind (arith, ints)

    here : v ≡ u → has_value others u ≡ true
    here e = subst (λ z. has_value others z ≡ true) e (m (subst (λ z. has_value news z ≡ true) (sym e) h))

    by : (c : Bool) → int_lt u at ≡ c → has_value others u ≡ true
    by true k = b u (a.each u h) k
    by false k = here ((Decides-int_eq v u).0 (same next e l (f.least u (a.each u h) (from k))))

-- the place goes up, and not far
pub place_low : (at v : ℤ) → int_le (negsuc 999999999) at ≡ true → int_le at v ≡ true → int_le (negsuc 999999999) (v +ℤ pos 1) ≡ true
place_low at v p q = grind (arith, ints)

pub place_high : (v : ℤ) → is_number v ≡ true → int_le (v +ℤ pos 1) (pos 1000000001) ≡ true
place_high v n = grind (arith, nat_tests, ints)

pub place_nearer : (at v : ℤ) → is_number v ≡ true → int_le at v ≡ true → nat_abs (pos 1000000001 -ℤ (v +ℤ pos 1)) < nat_abs (pos 1000000001 -ℤ at)
place_nearer at v n l = by v at (high v n) l
  where
    high : (v : ℤ) → is_number v ≡ true → int_le v (pos 1000000000) ≡ true
    high v n = grind (arith, nat_tests, ints)

    by : (v at : ℤ) → int_le v (pos 1000000000) ≡ true → int_le at v ≡ true → nat_abs (pos 1000000001 -ℤ (v +ℤ pos 1)) < nat_abs (pos 1000000001 -ℤ at)
    by v at h l = grind (arith, ints)
