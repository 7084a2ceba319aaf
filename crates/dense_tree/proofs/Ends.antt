-- Nodes, horizons and ends in their places, and just out of them.
use Rattle.std.proofs.Common.{◌≡◌, refl}
use Rattle.std.specs.Prelude.{[], ◌∷◌, true, false, Some, None, pos}
use Rattle.qc_model.specs.declared.problem.Kind.TheVariants.{Exists, Forall}
use Rattle.qc_model.specs.declared.problem.Sense.TheVariants.{Max}
use Rattle.qc_model.specs.declared.problem.Domain.TheVariants.{Range}
use Rattle.qc_model.specs.declared.problem.Pred.TheVariants.{IntLe, IntLt}
use Rattle.qc_model.specs.Content.{Game}
use Rattle.proof_tree.specs.declared.tree.Outcome.TheVariants.{True, False, Open}
use Rattle.proof_tree.proofs.Build.{var, scope, optimising, variable}
use Rattle.dense_tree.specs.Tree.{Certificate, Node, node, stuck, cases, Ending, close, bound, empty, barred, dead, next, branch, piece, left_open, no_more}
use Rattle.dense_tree.specs.Proves.{proves}
use Rattle.dense_tree.proofs.Words.{bit, scope_id, game, of_variable, at, num, rule_two, plainly, no_steps, on_to_goal, at_goal, at_stuck, case_one, case_to, skip_one, alone}
use Rattle.dense_tree.proofs.Closings.{below_n}
use Rattle.dense_tree.proofs.Outcomes.{one_wins}
use Rattle.dense_tree.proofs.LooseParts.{same_for_all}

-- exists; var 0..1: x; goal; constraint int_lt(x,0); solve; lost
abbrev never : Game
never = game (scope Exists ∷ []) (variable 0 bit ∷ []) (rule_two 1 IntLt (at 0) (num (pos 0)) ∷ [])

-- v 1, FIRST, SECOND, .
abbrev both_values : Ending → Ending → Ending
both_values first second = branch (var 0) (case_one no_steps first (case_one no_steps second no_more))

abbrev by_values : Ending → Ending → Certificate
by_values first second = alone (plainly no_steps (both_values first second))

-- for g: it stands at the goal, and not at a scope without a restriction
goal_too_early : proves never True None (alone at_goal) ≡ false
goal_too_early = refl

-- h 2, v 1, n, LAST, n, LAST, .
abbrev below_a_horizon : Node → Certificate
below_a_horizon last = alone (node false (Some (scope_id 1)) (cases no_steps (both_values (next last) (next last))))

stuck_at_the_goal : proves never False None (below_a_horizon at_stuck) ≡ true
stuck_at_the_goal = refl

-- for g: it stands below a horizon beyond the goal alone
goal_at_its_horizon : proves never False None (below_a_horizon at_goal) ≡ false
goal_at_its_horizon = refl

-- for t: it stands at the horizon in force
stuck_without_horizon : proves one_wins False None (alone at_stuck) ≡ false
stuck_without_horizon = refl

-- for a scope's own tree, h 1, e: it doesn't stand at the horizon
cases_at_the_horizon : proves (below_n (pos 0)) False None (alone (node false (Some (scope_id 0)) (cases no_steps empty))) ≡ false
cases_at_the_horizon = refl

-- for a scope's own tree, v 1, n, x, n, g, .: it doesn't stand at the goal
cases_at_the_goal : proves one_wins True None (by_values (next (plainly no_steps barred)) on_to_goal) ≡ false
cases_at_the_goal = refl

-- for h K, v 1, n, h 2, t, n, h 2, t, .: it begins at a scope, and not at the goal
horizon_at_the_goal : proves never False None (by_values (next (node false (Some (scope_id 1)) stuck)) (next (node false (Some (scope_id 1)) stuck))) ≡ false
horizon_at_the_goal = refl

-- for h K, h 3, e: K lies ahead, and not beyond the goal
horizon_beyond_the_goal : proves (below_n (pos 0)) False None (alone (node false (Some (scope_id 2)) (cases no_steps empty))) ≡ false
horizon_beyond_the_goal = refl

-- exists; var 0..1: x; exists; var 0..1: y; constraint int_lt(y,0); goal; solve;
abbrev second_fails : Game
second_fails = game (scope Exists ∷ scope Exists ∷ []) (variable 0 bit ∷ variable 1 bit ∷ []) (rule_two 1 IntLt (at 1) (num (pos 0)) ∷ [])

-- h 2, n, LAST
abbrev at_the_second : Node → Certificate
at_the_second last = alone (node false (Some (scope_id 1)) (cases no_steps (next last)))

stuck_at_the_second : proves second_fails False None (at_the_second at_stuck) ≡ true
stuck_at_the_second = refl

-- for h K, h 2 again, t: K is nearer than the one in force
horizon_no_nearer : proves second_fails False None (at_the_second (node false (Some (scope_id 1)) stuck)) ≡ false
horizon_no_nearer = refl

-- for l K as an end, v 1, l 2, l 2, .: nobody passes the scopes up to K; x = 1 does
some_play_at_ends : proves one_wins False None (by_values (dead (scope_id 1)) (dead (scope_id 1))) ≡ false
some_play_at_ends = refl

-- v 1, n, c, b 2 0 1, n, g, r 2, n, c, b 2 0 2, LAST, .
abbrev none_left_then : Ending → Certificate
none_left_then last = alone (plainly no_steps (branch (var 0)
    (case_one no_steps (next (plainly (close ∷ bound (var 1) (pos 0) (pos 1) ∷ []) on_to_goal))
    (case_to (pos 2) no_steps (next (plainly (close ∷ bound (var 1) (pos 0) (pos 2) ∷ []) last)) no_more))))

empty_after_a_bound : proves same_for_all True (Some (pos 2)) (none_left_then empty) ≡ true
empty_after_a_bound = refl

-- for l K: K lies ahead. l 1 in place of e, at the second scope: no box is closed for no constraint where a domain is empty
no_play_behind : proves same_for_all True (Some (pos 2)) (none_left_then (dead (scope_id 0))) ≡ false
no_play_behind = refl

-- for the player's n, v 1, n, g, s, .: the restriction doesn't fail
fails_and_goes_on : proves (below_n (pos 0)) True None (alone (plainly no_steps (branch (var 0) (case_one no_steps on_to_goal (skip_one no_more))))) ≡ false
fails_and_goes_on = refl

-- c, v 1, n, b 2 0 1, n, g, r 2, b 2 0 2, LAST, .
abbrev none_left_early : Ending → Certificate
none_left_early last = alone (plainly (close ∷ []) (branch (var 0)
    (case_one no_steps (next (plainly (bound (var 1) (pos 0) (pos 1) ∷ []) on_to_goal))
    (case_to (pos 2) (bound (var 1) (pos 0) (pos 2) ∷ []) last no_more))))

empty_before_its_scope : proves same_for_all True (Some (pos 2)) (none_left_early empty) ≡ true
empty_before_its_scope = refl

-- for n, n, e: something is left to each variable
nothing_left_goes_on : proves same_for_all True (Some (pos 2)) (none_left_early (next (plainly no_steps empty))) ≡ false
nothing_left_goes_on = refl

-- for x, v 1, x, x, .: the restriction fails
allowed_not_barred : proves one_wins False None (by_values barred barred) ≡ false
allowed_not_barred = refl

-- for x, x at once: the scope's values are single
open_not_barred : proves (below_n (pos 0)) False None (alone (plainly no_steps barred)) ≡ false
open_not_barred = refl

-- exists maximize z; var 0..1: x; constraint int_lt(x,1); exists; var 0..3: z; goal; solve;
abbrev one_is_barred : Game
one_is_barred = game (optimising Max (of_variable 1) ∷ scope Exists ∷ []) (variable 0 bit ∷ variable 1 (Range (pos 0) (pos 3)) ∷ [])
    (rule_two 0 IntLt (at 0) (num (pos 1)) ∷ [])

-- v 1, n, b 2 0 2, n, g, b 2 0 3, LAST, .
abbrev given_up_then : Ending → Certificate
given_up_then last = alone (plainly no_steps (branch (var 0)
    (case_one no_steps (next (plainly (bound (var 1) (pos 0) (pos 2) ∷ []) on_to_goal))
    (case_one (bound (var 1) (pos 0) (pos 3) ∷ []) last no_more))))

all_given_up : proves one_is_barred True (Some (pos 3)) (given_up_then empty) ≡ true
all_given_up = refl

-- for x: something is left to each variable
nothing_left_barred : proves one_is_barred True (Some (pos 3)) (given_up_then barred) ≡ false
nothing_left_barred = refl

-- exists; var 0..0: x; forall; var 0..1: y; goal; constraint int_le(y,0); solve; lost by y = 1
abbrev lost_by_a_move : Game
lost_by_a_move = game (scope Exists ∷ scope Forall ∷ []) (variable 0 (Range (pos 0) (pos 0)) ∷ variable 1 bit ∷ [])
    (rule_two 2 IntLe (at 1) (num (pos 0)) ∷ [])

-- for v, v 2, n, n, g, s, .: the variable is the scope's own
branch_of_another_scope : proves lost_by_a_move True None
    (alone (plainly no_steps (branch (var 1) (case_one no_steps (next (plainly no_steps on_to_goal)) (skip_one no_more))))) ≡ false
branch_of_another_scope = refl

-- for v, v 1, v 1, o, ., s, .: the variable has several values left
branch_of_one_value : proves one_wins (Open 1) None
    (alone (plainly no_steps (branch (var 0) (case_one no_steps (branch (var 0) (piece None left_open no_more)) (skip_one no_more))))) ≡ false
branch_of_one_value = refl

-- exists maximize x; var 0..2: x; var 0..1: y; goal; solve;
abbrev with_another : Game
with_another = game (optimising Max (of_variable 0) ∷ []) (variable 0 (Range (pos 0) (pos 2)) ∷ variable 0 bit ∷ []) []

-- v 2, LAST, LAST, .
abbrev each_y : Ending → Ending
each_y last = branch (var 1) (case_one no_steps last (case_one no_steps last no_more))

-- v 1, r 1, b 1 0 1, FIRST, v 2, n, g, n, g, ., .
abbrev small_first : Ending → Certificate
small_first first = alone (plainly no_steps (branch (var 0)
    (case_to (pos 1) (bound (var 0) (pos 0) (pos 1) ∷ []) first (case_one no_steps (each_y on_to_goal) no_more))))

small_given_up : proves with_another True (Some (pos 2)) (small_first empty) ≡ true
small_given_up = refl

-- for v, v 2, e, e, .: something is left to each variable
branch_of_nothing_left : proves with_another True (Some (pos 2)) (small_first (each_y empty)) ≡ false
branch_of_nothing_left = refl

-- exists maximize x; var 0..1: x; goal; solve;
abbrev greatest_wins : Game
greatest_wins = game (optimising Max (of_variable 0) ∷ []) (variable 0 bit ∷ []) []

-- for the cases of v, v 1, n, g, .: each value is in one
value_without_case : proves greatest_wins True (Some (pos 0)) (alone (plainly no_steps (branch (var 0) (case_one no_steps on_to_goal no_more)))) ≡ false
value_without_case = refl

-- for the cases of v, v 1, n, g, n, g, e, .: each has a value
case_without_value : proves one_wins True None (alone (plainly no_steps (branch (var 0)
    (case_one no_steps on_to_goal (case_one no_steps on_to_goal (case_one no_steps empty no_more)))))) ≡ false
case_without_value = refl

-- for the cases of v, v 1, r 1, n, g, .: none that is taken has all values
case_of_all_values : proves never False None (alone (plainly no_steps (branch (var 0) (case_to (pos 1) no_steps on_to_goal no_more)))) ≡ false
case_of_all_values = refl
