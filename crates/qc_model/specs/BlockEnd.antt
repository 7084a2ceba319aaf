-- The last scope of a block.
use Rattle.std.specs.Prelude.{ℕ, suc, ◌+◌, ◌-◌, min, Bool, true, false, List, [], ◌∷◌, length, drop, Option, Some, None}
use Rattle.qc_model.specs.declared.problem.Scope.{Scope}
use Rattle.qc_model.specs.Block.{of_kind, block_stop}
use Rattle.qc_model.specs.Content.{Game}

abbrev pub is_existential : Option Scope → Bool
is_existential None = false
is_existential (Some s) = of_kind s.kind true false

-- the scope before the first number that the block of scope i doesn't reach, or before the goal
abbrev pub block_end_of : Game → ℕ → ℕ
block_end_of g i = min (block_stop (drop (i + 1) g.scopes) (i + 1)) (length g.scopes) - 1

-- how many scopes at the head of the list are existential
abbrev pub exists_run : List Scope → ℕ
exists_run [] = 0
exists_run (s ∷ scopes) = of_kind s.kind (suc (exists_run scopes)) 0
