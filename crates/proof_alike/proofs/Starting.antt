-- What boxes that look the same leave to variables that aren't looked at.
use Rattle.std.proofs.Common.{◌≡◌, ℕ, ◌<◌, ◌≤◌, Bool, true, false, [], ◌∷◌, length, refl, ap, subst, arith}
use Rattle.std.specs.Prelude.{nat_le, nat_lt}
use Rattle.std.proofs.lemmas.Bool.Decides.{nat_tests}
use Rattle.std.proofs.lemmas.List.{get_or_past}
use Rattle.std.proofs.lemmas.Bool.{or_parts}
use Rattle.qc_model.specs.Content.{Game}
use Rattle.qc_model.specs.Domains.{Values, Box, values_left, is_single, least_value}
use Rattle.qc_model.specs.Game.{before}
use Rattle.proof_alike.specs.Alike.{is_seen, is_looked_at, AreAlike}
use Rattle.proof_alike.proofs.Boxes.{past_same}
use Rattle.proof_alike.proofs.Terms.{IsOne}

-- a variable that isn't looked at stands before scope i
pub early : (g : Game) (i x : ℕ) → is_looked_at g i x ≡ false → x < before g i
early g i x e = below (before g i) x (or_parts (nat_le (before g i) x) (is_seen g i x) e).0
  where
    below : (m k : ℕ) → nat_le m k ≡ false → k < m
    below m k h = grind (arith, nat_tests)

single_is_one : (vs : Values) → is_single vs ≡ true → IsOne vs
single_is_one [] h = cc
single_is_one (v ∷ []) h = refl
single_is_one (v ∷ z ∷ vs) h = cc

none_is_one : (vs : Values) → vs ≡ [] → IsOne vs
none_is_one [] h = refl
none_is_one (v ∷ vs) h = cc

inside : (x n : ℕ) → nat_lt x n ≡ true → x < n
inside x n e = grind (arith, nat_tests)

outside : (x n : ℕ) → nat_lt x n ≡ false → n ≤ x
outside x n e = grind (arith, nat_tests)

pub one_left : (g : Game) (i : ℕ) (a b : Box) → AreAlike g i a b → (x : ℕ) → is_looked_at g i x ≡ false → IsOne (values_left a x) × IsOne (values_left b x)
one_left g i a b l x q = by (nat_lt x (length a)) refl
  where
    by : (p : Bool) → nat_lt x (length a) ≡ p → IsOne (values_left a x) × IsOne (values_left b x)
    by true e = let r = l.others x (inside x (length a) e) q in (single_is_one (values_left a x) r.0, single_is_one (values_left b x) r.1)
    by false e =
        let n = outside x (length a) e in (
          none_is_one (values_left a x) (get_or_past a x [] n),
          none_is_one (values_left b x) (get_or_past b x [] (subst (λ m. m ≤ x) l.size n)),
        )

single_same : (vs ws : Values) → is_single vs ≡ true → is_single ws ≡ true → least_value vs ≡ least_value ws → vs ≡ ws
single_same [] ws h k e = cc
single_same (v ∷ z ∷ vs) ws h k e = cc
single_same (v ∷ []) [] h k e = cc
single_same (v ∷ []) (w ∷ z ∷ ws) h k e = cc
single_same (v ∷ []) (w ∷ []) h k e = ap (λ z. z ∷ []) e

-- one that has the same value in both has the same left
pub least_same : (g : Game) (i : ℕ) (a b : Box) → AreAlike g i a b → (x : ℕ) → is_looked_at g i x ≡ false → least_value (values_left a x) ≡ least_value (values_left b x) → values_left a x ≡ values_left b x
least_same g i a b l x q h = by (nat_lt x (length a)) refl
  where
    by : (p : Bool) → nat_lt x (length a) ≡ p → values_left a x ≡ values_left b x
    by true e = let r = l.others x (inside x (length a) e) q in single_same (values_left a x) (values_left b x) r.0 r.1 h
    by false e = past_same a b x l.size (outside x (length a) e)
