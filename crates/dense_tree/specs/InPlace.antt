-- Which lines are in place where.
use Rattle.std.specs.Prelude.{ℕ, suc, ◌+◌, nat_le, Bool, true, false, not, ◌&&◌, ◌||◌, Option, Some, None, List, [], ◌∷◌, length, slice_get, is_none, ℤ}
use Rattle.std.specs.List.{list_any}
use Rattle.qc_model.specs.declared.problem.ScopeId.{ScopeId}
use Rattle.qc_model.specs.declared.problem.Sense.{Sense}
use Rattle.qc_model.specs.declared.problem.Target.{Target}
use Rattle.qc_model.specs.declared.problem.Target.TheVariants.{Var, Aggregate as Agg}
use Rattle.qc_model.specs.declared.problem.Condition.{Condition}
use Rattle.qc_model.specs.Arguments.{variables_of}
use Rattle.qc_model.specs.Closed.{refutes_at}
use Rattle.qc_model.specs.Content.{Rule}
use Rattle.qc_model.specs.Domains.{Box, values_left, is_single, least_value, greatest_value, has_empty}
use Rattle.qc_model.specs.Game.{is_of_scope}
use Rattle.proof_tree.specs.InPlace.{is_nearer, is_horizon}
use Rattle.proof_tree.specs.Place.{is_fixed, is_goal, owner_of}
use Rattle.proof_tree.specs.Steps.{best_value}
use Rattle.dense_closing.specs.ClosingSteps.{greatest_closed}
use Rattle.dense_closing.specs.Takes.{takes_all}
use Rattle.dense_tree.specs.Tuples.{all_hold, some_fails, is_tuple_of, box_taken}
use Rattle.dense_tree.specs.Free.{is_universal, is_unrestricted, is_free_from}
use Rattle.dense_tree.specs.Place.{Setting, Place, is_players, is_opponents, is_free_choice, forced, restricted, closed_box, with_box}

-- no box within is closed for the constraints of the scopes from its own to k, whosever values go: nobody passes them all
abbrev pub none_passes : Setting → Place → ℕ → Bool
none_passes s p k = is_none (greatest_closed takes_all s.game p.number (suc k) p.box)

-- k is the scope's number, or that of a later one or of the goal
abbrev pub is_ahead : Place → ℕ → Bool
is_ahead p k = nat_le p.number k && nat_le k (p.number + length p.later)

-- a horizon begins at a scope, lies ahead and nearer than the one in force, and nobody passes it
abbrev pub horizon_placed : Setting → Option ScopeId → Place → Bool
horizon_placed s None p = true
horizon_placed s (Some k) p = not (is_goal p.later) && is_ahead p k.0 && is_nearer k.0 p.horizon && none_passes s p k.0

-- the scope's own tree
abbrev pub cases_placed : Place → Bool
cases_placed p = not (is_horizon p.horizon p.number) && not (is_goal p.later)

abbrev pub goal_placed : Place → Bool
goal_placed p = not (is_horizon p.horizon p.number) && is_goal p.later

abbrev pub stuck_placed : Place → Bool
stuck_placed p = is_horizon p.horizon p.number

-- lost since nobody passes the scopes to k, though the opponent always has a move
abbrev pub no_play_placed : Setting → Place → ScopeId → Bool
no_play_placed s p k = is_free_from s.game s.given p.later p.number && is_ahead p k.0 && none_passes s p k.0

-- so too at an end, but not among the opponent's tuples where some may be forbidden
abbrev pub dead_placed : Setting → Place → ScopeId → Bool
dead_placed s p k = (is_players p || is_free_choice s p) && no_play_placed s p k

-- x is a variable of the opponent, of an unrestricted scope from i on
abbrev pub is_open_move : Setting → ℕ → ℕ → Bool
is_open_move s i x =
    let owner = owner_of (slice_get s.game.variables x) in
    nat_le i owner && is_universal (slice_get s.game.scopes owner) && is_unrestricted s.game owner

-- the constraint refutes the box with an end of such a variable: a move that has no answer
abbrev pub is_answerless : Setting → Place → Box → Rule → Bool
is_answerless s p box c =
    list_any
    (λ x. is_open_move s p.number x && (refutes_at c box x (least_value (values_left box x)) || refutes_at c box x (greatest_value (values_left box x))))
    (variables_of c.args)

-- no box within is closed, or some move has no answer in the greatest. A closing doesn't go by such moves, or there would be no
-- greatest box
abbrev pub is_empty_in : Setting → Place → Option Box → Bool
is_empty_in s p None = true
is_empty_in s p (Some box) = list_any (is_answerless s p box) (forced s p)

abbrev pub empty_placed : Setting → Place → Bool
empty_placed s p = is_empty_in s p (closed_box s p)

-- the scope's values are single, and its restriction fails
abbrev pub barred_placed : Setting → Place → Bool
barred_placed s p = not (has_empty p.box) && is_fixed s.game p.number p.box && some_fails (restricted s p) p.box

-- on to the next scope: the player's may go on with several values left, unless its restriction fails; the opponent's goes on with
-- one tuple, which is allowed throughout the box
abbrev pub next_placed : Setting → Place → Bool
next_placed s p =
    not (has_empty p.box)
    && ((is_players p && not (some_fails (restricted s p) p.box))
    || (is_opponents p && is_fixed s.game p.number p.box && all_hold (restricted s p) p.box))

-- the place with a tuple of the scope taken
abbrev pub place_taken : Setting → List ℤ → Place → Place
place_taken s vs p = with_box (box_taken s.game p.number p.box vs) p

abbrev pub chosen_placed : Setting → List ℤ → Place → Bool
chosen_placed s vs p = is_tuple_of s.game p.number p.box vs && next_placed s (place_taken s vs p)

abbrev pub branch_placed : Setting → Place → ℕ → Bool
branch_placed s p x = not (has_empty p.box) && is_of_scope s.game p.number x && not (is_single (values_left p.box x))

-- the best value left to the variable that is demanded first
abbrev pub target_best : Sense → Target → Box → List ℤ
target_best s (Var x) box = best_value s (values_left box x.0) ∷ []
target_best s (Agg q) box = []

abbrev pub list_best : List Condition → Box → List ℤ
list_best [] box = []
list_best (c ∷ d) box = target_best c.sense c.target box

abbrev pub is_some_value : List ℤ → Bool
is_some_value [] = false
is_some_value (v ∷ vs) = true

-- a variable is demanded first of the player's scope
abbrev pub best_placed : Place → Bool
best_placed p = not (has_empty p.box) && is_players p && is_some_value (list_best p.list p.box)
