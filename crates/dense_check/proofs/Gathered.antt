-- Tuples of which no more than 501 values were gathered.
use Rattle.std.proofs.Common.{◌≡◌, ◌∙◌, refl, ap, ℕ, zero, suc, ◌≤◌, ◌<◌, Bool, true, false, ◌&&◌, List, [], ◌∷◌, length, take, arith, ◌⊎◌, inl, inr}
use Rattle.std.specs.Prelude.{ℤ}
use Rattle.std.proofs.lemmas.List.{length-drop, length-take}
use Rattle.qc_model.specs.Content.{Game}
use Rattle.qc_model.specs.Domains.{Box, Values, has_value}
use Rattle.qc_model.specs.Game.{before, part}
use Rattle.dense_tree.specs.Tuples.{are_of, is_tuple_of}
use Rattle.dense_check.specs.Telling.{IsGathered}

as_many : (ds : List Values) (t : List ℤ) → are_of ds t ≡ true → length t ≡ length ds
as_many [] [] h = refl
as_many [] (v ∷ t) h = cc
as_many (d ∷ ds) [] h = cc
as_many (d ∷ ds) (v ∷ t) h = ap suc (as_many ds t (later (has_value d v) h))
  where
    later : (b : Bool) → (b && are_of ds t) ≡ true → are_of ds t ≡ true
    later true e = e
    later false e = cc

too_many : (ds : List Values) (t : List ℤ) → length ds < length t → are_of ds t ≡ false
too_many ds t l = by (are_of ds t) refl
  where
    by : (b : Bool) → are_of ds t ≡ b → b ≡ false
    by false e = refl
    by true e = let same = as_many ds t e in absurd (omega (arith, l, same))

side : (n : ℕ) → (n ≤ 501) ⊎ (501 < n)
side n = grind arith

pub whole : (n : ℕ) (t : List ℤ) → length t ≤ n → take n t ≡ t
whole zero [] l = refl
whole zero (v ∷ t) l = absurd (omega (arith, l))
whole (suc n) [] l = refl
whole (suc n) (v ∷ t) l = ap (λ ts. v ∷ ts) (whole n t (omega (arith, l)))

-- all values were gathered, or neither is a tuple
pub gathered : (g : Game) (i : ℕ) (box : Box) (vs t : List ℤ) → length box ≤ 500 → IsGathered vs t → (vs ≡ t) ⊎ ((is_tuple_of g i box vs ≡ false) × (is_tuple_of g i box t ≡ false))
gathered g i box vs t few h = by (side (length t))
  where
    ds : List Values
    ds = part g i box

    short : length ds ≤ 500
    short =
        let a = length-drop (before g i) (take (before g (suc i)) box) in
        let b = length-take (before g (suc i)) box in
        omega (arith, a, b, few)

    by : (length t ≤ 501) ⊎ (501 < length t) → (vs ≡ t) ⊎ ((are_of ds vs ≡ false) × (are_of ds t ≡ false))
    by (inl l) = inl (h ∙ whole 501 t l)
    by (inr l) =
        let some : length (take 501 t) ≡ 501 = omega (arith, length-take 501 t, l) in
        inr (too_many ds vs (omega (arith, short, some, ap length h)), too_many ds t (omega (arith, short, l)))
