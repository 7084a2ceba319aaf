-- The test that no number stands twice.
use Rattle.std.specs.Prelude.{ℕ, ◌==◌, Bool, true, not, ◌&&◌, List, [], ◌∷◌}
use Rattle.std.specs.List.{list_any}

abbrev pub all_apart : List ℕ → Bool
all_apart [] = true
all_apart (x ∷ xs) = not (list_any (λ y. x == y) xs) && all_apart xs
