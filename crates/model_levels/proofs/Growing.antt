-- Lists that grow at their end.
use Rattle.std.proofs.Common.{◌≡◌, ◌∙◌, sym, ap, refl, ◌<◌, ◌+◌, ℕ, zero, suc, List, [], ◌∷◌, ◌++◌, length, arith, inl, inr, Some, ◌⊎◌}
use Rattle.std.proofs.Math.Nat.{eq-or-lt_of_le}
use Rattle.std.specs.Prelude.{slice_get, slice_index}

-- an item of the longer list is one of the shorter, or the new one
pub item_of : {X : Type 0} (xs : List X) (x : X) (i : ℕ) (y : X) → slice_get (xs ++ x ∷ []) i ≡ Some y → (slice_get xs i ≡ Some y) ⊎ ((i ≡ length xs) × (x ≡ y))
item_of [] x zero y e = inr (refl, cc)
item_of [] x (suc i) y e = cc
item_of (z ∷ xs) x zero y e = inl e
item_of (z ∷ xs) x (suc i) y e = elim (item_of xs x i y e) [ inl h ↦ inl h | inr h ↦ inr (ap suc h.0, h.1) ]

pub length_more : {X : Type 0} (xs : List X) (x : X) → length (xs ++ x ∷ []) ≡ suc (length xs)
length_more [] x = refl
length_more (y ∷ xs) x = ap suc (length_more xs x)

at_end : (xs : List ℕ) (x : ℕ) → slice_index (xs ++ x ∷ []) (length xs) ≡ x
at_end [] x = refl
at_end (y ∷ xs) x = at_end xs x

as_before : (xs : List ℕ) (x i : ℕ) → i < length xs → slice_index (xs ++ x ∷ []) i ≡ slice_index xs i
as_before [] x i h = absurd (omega arith)
as_before (y ∷ xs) x zero h = refl
as_before (y ∷ xs) x (suc i) h = as_before xs x i (omega arith)

-- f at each place, and at one more
pub each_more : (f : ℕ → ℕ) (xs ys : List ℕ) (x n : ℕ) → ys ≡ xs ++ x ∷ [] → length xs ≡ n → x ≡ f n → ((k : ℕ) → k < length xs → slice_index xs k ≡ f k) →
    (length ys ≡ n + 1) × ((k : ℕ) → k < length ys → slice_index ys k ≡ f k)
each_more f xs ys x n e l h each =
    let long : length ys ≡ n + 1 = let a = ap length e ∙ length_more xs x in omega (arith, a, l) in
    (long, λ k lt. ap (λ zs. slice_index zs k) e ∙ by k (omega (arith, long, l, lt)))
  where
    at : (k : ℕ) → (k ≡ length xs) ⊎ (k < length xs) → slice_index (xs ++ x ∷ []) k ≡ f k
    at k (inl same) = ap (λ m. slice_index (xs ++ x ∷ []) m) same ∙ (at_end xs x ∙ (h ∙ ap f (sym (same ∙ l))))
    at k (inr less) = as_before xs x k less ∙ each k less

    by : (k : ℕ) → k < length xs + 1 → slice_index (xs ++ x ∷ []) k ≡ f k
    by k lt = at k (eq-or-lt_of_le (omega arith))
