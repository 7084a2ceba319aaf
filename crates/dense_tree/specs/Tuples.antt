-- Tuples of a scope taken in a box, and constraints that hold throughout a box or nowhere in it.
use Rattle.std.specs.Prelude.{ℕ, suc, Bool, true, false, ◌&&◌, List, [], ◌∷◌, ◌++◌, map, take, drop, ℤ}
use Rattle.std.specs.List.{list_any, list_all}
use Rattle.qc_model.specs.Content.{Game, Rule}
use Rattle.qc_model.specs.Domains.{Values, Box, has_value}
use Rattle.qc_model.specs.Game.{before, part}
use Rattle.qc_model.specs.Refuted.{refuted_by}
use Rattle.lemma_list.specs.Entailment.{entailed_by}

-- the box entails each constraint: each of its values satisfies it
abbrev pub all_hold : List Rule → Box → Bool
all_hold cs box = list_all (λ c. entailed_by c box) cs

-- the box refutes one: none of its values does
abbrev pub some_fails : List Rule → Box → Bool
some_fails cs box = list_any (λ c. refuted_by c box) cs

-- the tuple has a value of each domain
abbrev pub are_of : List Values → List ℤ → Bool
are_of [] [] = true
are_of [] (v ∷ vs) = false
are_of (d ∷ ds) [] = false
are_of (d ∷ ds) (v ∷ vs) = has_value d v && are_of ds vs

-- a tuple of scope i, in the box
abbrev pub is_tuple_of : Game → ℕ → Box → List ℤ → Bool
is_tuple_of g i box t = are_of (part g i box) t

-- the box with that tuple taken
abbrev pub box_taken : Game → ℕ → Box → List ℤ → Box
box_taken g i box t = take (before g i) box ++ (map (λ v. v ∷ []) t ++ drop (before g (suc i)) box)
