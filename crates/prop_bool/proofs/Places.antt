-- The literals of two arrays by their places.
use Rattle.std.proofs.Common.{◌≡◌, ℕ, zero, suc, ◌<◌, ◌≤◌, ◌+◌, ◌-◌, List, [], ◌∷◌, length, map, get_or, Some, refl, ap, ◌∙◌, arith}
use Rattle.std.specs.Prelude.{slice_get}
use Rattle.qc_model.specs.declared.problem.Arg.{Arg}
use Rattle.prop_bool.specs.Literals.{literals, plain, negated}

-- one of the first array
pub plain_at : (a b : List Arg) (k : ℕ) (d : Arg) → k < length a → slice_get (literals a b) k ≡ Some (plain (get_or a k d))
plain_at [] b k d l = absurd (omega (arith, l))
plain_at (x ∷ a) b zero d l = refl
plain_at (x ∷ a) b (suc k) d l = plain_at a b k d (omega (arith, l))

item_at : (b : List Arg) (k : ℕ) (d : Arg) → k < length b → slice_get (map negated b) k ≡ Some (negated (get_or b k d))
item_at [] k d l = absurd (omega (arith, l))
item_at (x ∷ b) zero d l = refl
item_at (x ∷ b) (suc k) d l = item_at b k d (omega (arith, l))

past_first : (a b : List Arg) (k j : ℕ) (d : Arg) → k ≡ length a + j → j < length b → slice_get (literals a b) k ≡ Some (negated (get_or b j d))
past_first [] b k j d e l = ap (slice_get (map negated b)) (same k j e) ∙ item_at b j d l
  where
    same : (k j : ℕ) → k ≡ 0 + j → k ≡ j
    same k j e = omega (arith, e)
past_first (x ∷ a) b zero j d e l = absurd (omega (arith, e))
past_first (x ∷ a) b (suc k) j d e l = past_first a b k j d (omega (arith, e)) l

-- one of the second array
pub negated_at : (a b : List Arg) (k : ℕ) (d : Arg) → length a ≤ k → k < length a + length b → slice_get (literals a b) k ≡ Some (negated (get_or b (k - length a) d))
negated_at a b k d h l = past_first a b k (k - length a) d (omega (arith, h)) (omega (arith, h, l))
