-- Bounds of a scope's own tree: which are beaten by the exact leaves.
use Rattle.std.specs.Prelude.{Bool, false, List, [], ◌∷◌, map, ℤ, IsTrue}
use Rattle.std.specs.List.{list_all, list_any}
use Rattle.qc_model.specs.declared.problem.Condition.{Condition}
use Rattle.qc_model.specs.ExistsVerdict.{beats}
use Rattle.qc_model.specs.Verdict.{Seen, seen_bound, exact_vectors, first_value, is_none_of}

-- the first values of the exact leaves
abbrev pub firsts : List Seen → List ℤ
firsts xs = map first_value (exact_vectors xs)

-- the marks of bounds, as they are seen
abbrev pub seen_bounds : List ℤ → List Seen
seen_bounds ms = map seen_bound ms

-- one of the numbers is better than the bound m, or as good where the list d asks for nothing else
abbrev pub is_beaten : List Condition → List ℤ → ℤ → Bool
is_beaten [] ns m = false
is_beaten (c ∷ d) ns m = list_any (λ n. beats c.sense (is_none_of d) n m) ns

-- so for each of the bounds
abbrev pub are_beaten : List Condition → List ℤ → List ℤ → Bool
are_beaten d ns ms = list_all (is_beaten d ns) ms

-- whatever holds of each of ms holds of each of ns
abbrev pub AreAmong : List ℤ → List ℤ → Type 0
AreAmong ns ms = (p : ℤ → Bool) → IsTrue (list_all p ms) → IsTrue (list_all p ns)
