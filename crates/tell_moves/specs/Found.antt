-- The allowed tuples that begin with some values.
use Rattle.std.specs.Prelude.{ℕ, cond, List, [], ◌∷◌, ◌++◌, flat_map, drop, take, ℤ}
use Rattle.qc_model.specs.Content.{Game}
use Rattle.qc_model.specs.Domains.{Box, Values, declared_box}
use Rattle.qc_model.specs.Game.{allows}

-- The allowed tuples of scope i that begin as the values w do after the first n of them, in order: those after w have these
-- domains.
abbrev pub found : Game → ℕ → ℕ → List ℤ → Box → List (List ℤ)
found g i n w [] = cond (allows g i w) (drop n w ∷ []) []
found g i n w (d ∷ ds) = flat_map (λ v. found g i n (w ++ v ∷ []) ds) d

-- the same where the first variable after w has one of these values
abbrev pub found_by : Game → ℕ → ℕ → List ℤ → Values → Box → List (List ℤ)
found_by g i n w vs ds = flat_map (λ v. found g i n (w ++ v ∷ []) ds) vs

-- the declared domains from variable k on, up to the one before the stop
abbrev pub domains_to : Game → ℕ → ℕ → Box
domains_to g k stop = drop k (take stop (declared_box g))
