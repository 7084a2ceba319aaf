-- Which constraints need no evaluation once their variables have one value left each.
use Rattle.std.specs.Prelude.{Bool, true, false, not, ◌||◌, List, [], ◌∷◌, length, IsTrue}
use Rattle.std.specs.List.{list_all}
use Rattle.qc_model.specs.declared.problem.Scope.{Scope}
use Rattle.qc_model.specs.Arguments.{variables_of}
use Rattle.qc_model.specs.Block.{of_kind}
use Rattle.qc_model.specs.Closed.{keeps_ends}
use Rattle.qc_model.specs.Content.{Game, Rule}
use Rattle.qc_model.specs.Domains.{Box}
use Rattle.qc_model.specs.Game.{restriction}
use Rattle.qc_model.specs.Holds.{holds_on}
use Rattle.qc_model.specs.Verdict.{is_none_of}

-- the constraint has some variable among its arguments, or holds without any
abbrev pub is_shown : Rule → Bool
is_shown c = not (is_none_of (variables_of c.args)) || holds_on c []

-- so does each constraint
abbrev pub each_shown : List Rule → Bool
each_shown rules = list_all is_shown rules

-- the last scope is existential, so the constraints of the goal are in force there
abbrev pub takes_goal_in : List Scope → Bool
takes_goal_in [] = false
takes_goal_in (s ∷ []) = of_kind s.kind true false
takes_goal_in (s ∷ t ∷ later) = takes_goal_in (t ∷ later)

-- where the last scope takes the goal in, no constraint of the goal refutes an end of a variable of its own
abbrev pub IsClosedAtGoal : Game → Box → Type 0
IsClosedAtGoal g box = IsTrue (takes_goal_in g.scopes) → IsTrue (list_all (keeps_ends box) (restriction g (length g.scopes)))
