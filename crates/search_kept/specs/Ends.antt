-- Lines with which a part of a tree ends.
use Rattle.std.specs.Prelude.{ℕ, suc, Bool, true, false, cond, List, [], ◌∷◌}
use Rattle.proof_tree.specs.declared.line.Line.{Line}
use Rattle.proof_tree.specs.declared.line.Line.TheVariants.{Horizon, Prune, Bound, Dot, Stuck, Goal, Empty, Barred, Next, Branch, Skip, Open, Range}

-- the last line of the part of a case or a node that isn't that of a node below it, or the line of a node that has no part
abbrev pub ends : Line → Bool
ends (Horizon k) = false
ends (Prune x low high c) = false
ends (Bound x low high) = false
ends Dot = false
ends Stuck = true
ends Goal = true
ends Empty = true
ends Barred = true
ends Next = false
ends (Branch x) = true
ends Skip = false
ends Open = false
ends (Range high) = false

-- how many there are
abbrev pub ends_in : List Line → ℕ
ends_in [] = 0
ends_in (l ∷ ls) = cond (ends l) (suc (ends_in ls)) (ends_in ls)
