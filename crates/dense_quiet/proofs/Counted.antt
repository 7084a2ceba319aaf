-- Items that pass a test, counted one by one.
use Rattle.std.proofs.Common.{◌≡◌, ℕ, ◌<◌, ◌≤◌, ◌+◌, Bool, true, false, List, length, take, get_or, sym, ap, ◌∙◌, arith}
use Rattle.std.specs.Prelude.{count_by}
use Rattle.std.proofs.lemmas.List.Sums.{count_by-le-length, count_by_more_yes, count_by_more_no}
use Rattle.std.proofs.lemmas.List.{length-take}
use mir.Val.{Fits}
use mir.Syntax.{w64}

-- among the first so many there are few
pub counted_few : {X : Type 0} (p : X → Bool) (xs : List X) (i n : ℕ) → n ≡ count_by p (take i xs) → length xs ≤ 1000 → n ≤ 1000
counted_few p xs i n e few = omega (arith, count_by-le-length p (take i xs), length-take i xs)

pub counted_fits : {X : Type 0} (p : X → Bool) (xs : List X) (i n : ℕ) → n ≡ count_by p (take i xs) → i < length xs → length xs ≤ 1000 → Fits w64 (n + 1)
counted_fits p xs i n e l few = fits n (counted_few p xs i n e few)
  where
    fits : (n : ℕ) → n ≤ 1000 → Fits w64 (n + 1)
    fits n h = record { fits = omega arith }

-- one that passes, and one that doesn't
pub count_yes : {X : Type 0} (p : X → Bool) (xs : List X) (i : ℕ) (d : X) (n : ℕ) → n ≡ count_by p (take i xs) → i < length xs → p (get_or xs i d) ≡ true → n + 1 ≡ count_by p (take (i + 1) xs)
count_yes p xs i d n e l h = ap (λ m. m + 1) e ∙ sym (count_by_more_yes p xs i d l h)

pub count_no : {X : Type 0} (p : X → Bool) (xs : List X) (i : ℕ) (d : X) (n : ℕ) → n ≡ count_by p (take i xs) → i < length xs → p (get_or xs i d) ≡ false → n ≡ count_by p (take (i + 1) xs)
count_no p xs i d n e l h = e ∙ sym (count_by_more_no p xs i d l h)
