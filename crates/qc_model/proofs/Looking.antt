-- What is looked up in a list at a place.
use Rattle.std.proofs.Common.{◌≡◌, ◌<◌, ◌≤◌, ◌∙◌, ℕ, true, false, List, ap, sym, refl, length, Some, None, arith}
use Rattle.std.specs.Prelude.{slice_get, nat_lt}
use Rattle.std.specs.List.{slice_index_or}
use Rattle.std.proofs.lemmas.Bool.Decides.{nat_tests}
use Rattle.std.proofs.lemmas.Option.{slice_get_read, slice_get_past}

-- a place that the test finds below the length, and one that it doesn't
below : (n k : ℕ) → true ≡ nat_lt n k → n < k
below n k h = grind (arith, nat_tests)

not_below : (n k : ℕ) → false ≡ nat_lt n k → k ≤ n
not_below n k h = grind (arith, nat_tests)

-- the item at a place that the list has
pub found_there : {X : Type 0} (xs : List X) (n : ℕ) (x y : X) → true ≡ nat_lt n (length xs) → x ≡ slice_index_or xs n x → x ≡ y → Some y ≡ slice_get xs n
found_there xs n x y l e h = sym (slice_get_read xs (length xs) n x refl (below n (length xs) l) e ∙ ap Some h)

-- no item where the list ends before
pub none_there : {X : Type 0} (xs : List X) (n : ℕ) → false ≡ nat_lt n (length xs) → None ≡ slice_get xs n
none_there xs n l = sym (slice_get_past xs n (not_below n (length xs) l))
