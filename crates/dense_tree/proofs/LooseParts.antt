-- A scope of the player goes on early, with several values left.
use Rattle.std.proofs.Common.{◌≡◌, refl}
use Rattle.std.specs.Prelude.{List, [], ◌∷◌, true, false, Some, None, pos, neg_ℤ}
use Rattle.qc_model.specs.declared.problem.Kind.TheVariants.{Exists, Forall}
use Rattle.qc_model.specs.declared.problem.Sense.TheVariants.{Min, Max}
use Rattle.qc_model.specs.declared.problem.Arg.TheVariants.{Var}
use Rattle.qc_model.specs.declared.problem.Domain.TheVariants.{Range}
use Rattle.qc_model.specs.declared.problem.Pred.TheVariants.{IntEq, IntLe, IntLt}
use Rattle.qc_model.specs.Content.{Game}
use Rattle.proof_tree.specs.declared.tree.Outcome.TheVariants.{True, False}
use Rattle.proof_tree.proofs.Build.{var, scope, optimising, variable}
use Rattle.dense_tree.specs.Tree.{again, Certificate, Step, Node, Ending, chosen, close, bound, empty, next, branch, no_more}
use Rattle.dense_tree.specs.Proves.{proves}
use Rattle.dense_tree.proofs.Words.{bit, game, of_variable, at, num, rule_two, sum_at_most, plainly, named, no_steps, on_to_goal, case_one, case_to, skip_one, alone}

-- exists; var 0..2: x; forall; var 0..1: y; constraint int_le(y,1); exists; var 0..0: z; constraint int_eq(z,y); goal; solve;
abbrev opponent_decides : Game
opponent_decides = game (scope Exists ∷ scope Forall ∷ scope Exists ∷ [])
    (variable 0 (Range (pos 0) (pos 2)) ∷ variable 1 bit ∷ variable 2 (Range (pos 0) (pos 0)) ∷ [])
    (rule_two 1 IntLe (at 1) (num (pos 1)) ∷ rule_two 2 IntEq (at 2) (at 1) ∷ [])

-- n, v 2, s, n, e, .: whatever x is
abbrev whatever_x_is : Certificate
whatever_x_is = alone (plainly no_steps (next (plainly no_steps (branch (var 1) (skip_one (case_one no_steps (next (plainly no_steps empty)) no_more))))))

lost_early : proves opponent_decides False None whatever_x_is ≡ true
lost_early = refl

-- exists; var 0..1: x; constraint int_le(0,x); forall; var 0..0: y; goal; constraint int_le(y,x); solve; won
abbrev always_won : Game
always_won = game (scope Exists ∷ scope Forall ∷ []) (variable 0 bit ∷ variable 1 (Range (pos 0) (pos 0)) ∷ [])
    (rule_two 0 IntLe (num (pos 0)) (at 0) ∷ rule_two 2 IntLe (at 1) (at 0) ∷ [])

-- for what is exact, n, n, g: nothing is, in a loose part
loose_goal : proves always_won True None (alone (plainly no_steps (next (plainly no_steps on_to_goal)))) ≡ false
loose_goal = refl

-- v 1, n, n, g, s, .
won_in_time : proves always_won True None (alone (plainly no_steps (branch (var 0) (case_one no_steps (next (plainly no_steps on_to_goal)) (skip_one no_more))))) ≡ true
won_in_time = refl

-- exists minimize x; var 0..2: x; forall; var 1..1: y; constraint int_le(y,x); exists; var 0..0: w; constraint int_lt(w,0); goal; solve;
-- With x = 0 the opponent is stuck, so the game is won
abbrev stuck_for_some : Game
stuck_for_some = game (optimising Min (of_variable 0) ∷ scope Forall ∷ scope Exists ∷ [])
    (variable 0 (Range (pos 0) (pos 2)) ∷ variable 1 (Range (pos 1) (pos 1)) ∷ variable 2 (Range (pos 0) (pos 0)) ∷ [])
    (rule_two 1 IntLe (at 1) (at 0) ∷ rule_two 2 IntLt (at 2) (num (pos 0)) ∷ [])

-- for the opponent's n, n, c, n, e: his restriction takes no value of x, so it doesn't hold throughout the box
restriction_takes_none : proves stuck_for_some False None (alone (plainly no_steps (next (plainly (close ∷ []) (next (plainly no_steps empty)))))) ≡ false
restriction_takes_none = refl

-- v 1, n, e, r 2, n, n, e, .
won_at_zero : proves stuck_for_some True (Some (pos 0)) (alone (plainly no_steps (branch (var 0)
    (case_one no_steps (next (plainly no_steps empty)) (case_to (pos 2) no_steps (next (plainly no_steps (next (plainly no_steps empty)))) no_more))))) ≡ true
won_at_zero = refl

-- exists maximize z; var 0..1: x; var 0..5: z; constraint int_lin_le([1,-4],[z,x],1); forall; var 0..0: y; constraint int_lt(y,0); goal; solve;
-- The opponent is stuck at once, so z = 5 is reached
abbrev greatest_of_open : Game
greatest_of_open = game (optimising Max (of_variable 1) ∷ scope Forall ∷ [])
    (variable 0 bit ∷ variable 0 (Range (pos 0) (pos 5)) ∷ variable 1 (Range (pos 0) (pos 0)) ∷ [])
    (sum_at_most 0 (pos 1 ∷ neg_ℤ (pos 4) ∷ []) (Var (var 1) ∷ Var (var 0) ∷ []) (pos 1) ∷ rule_two 1 IntLt (at 2) (num (pos 0)) ∷ [])

-- n, e
abbrev opponent_stuck : Ending
opponent_stuck = next (plainly no_steps empty)

-- v 1, c, v 2, n, e, n, e, ., LAST, .
abbrev small_then : List Step → Ending → Certificate
small_then steps last = alone (plainly no_steps (branch (var 0)
    (case_one (close ∷ []) (branch (var 1) (case_one no_steps opponent_stuck (case_one no_steps opponent_stuck no_more)))
    (case_one steps last no_more))))

-- for the bound of a loose node: it is no better than what is left to z, and not than its least value
open_value : proves greatest_of_open True (Some (pos 1)) (small_then no_steps opponent_stuck) ≡ false
open_value = refl

-- .. b 2 0 4, n, e, .
greatest_value : proves greatest_of_open True (Some (pos 5)) (small_then (bound (var 1) (pos 0) (pos 4) ∷ []) opponent_stuck) ≡ true
greatest_value = refl

-- exists maximize z; var 0..2: x; exists; var 0..3: z; constraint int_le(z,2); goal; solve;
abbrev pub same_for_all : Game
same_for_all = game (optimising Max (of_variable 1) ∷ scope Exists ∷ []) (variable 0 (Range (pos 0) (pos 2)) ∷ variable 1 (Range (pos 0) (pos 3)) ∷ [])
    (rule_two 1 IntLe (at 1) (num (pos 2)) ∷ [])

-- v 1, n, m, c, b 2 0 1, n, g, r 2, n, a 1, .: in a loose part what is told is an upper bound, by its own first value
told_in_a_loose_part : proves same_for_all True (Some (pos 2)) (alone (plainly no_steps (branch (var 0)
    (case_one no_steps (next (named (close ∷ bound (var 1) (pos 0) (pos 1) ∷ []) on_to_goal))
    (case_to (pos 2) no_steps (next (again 0)) no_more))))) ≡ true
told_in_a_loose_part = refl

-- exists maximize z; var 0..2: x; exists; var 0..3: z; goal; constraint int_le(z,x); solve;
abbrev below_x : Game
below_x = game (optimising Max (of_variable 1) ∷ scope Exists ∷ []) (variable 0 (Range (pos 0) (pos 2)) ∷ variable 1 (Range (pos 0) (pos 3)) ∷ [])
    (rule_two 2 IntLe (at 1) (at 0) ∷ [])

-- for g in a loose part, v 1, r 1, n, c, b 2 0 0, n, g, n, c, b 2 0 1, n, g, .: it bounds where the goal holds throughout. z = 1 needs x = 1
goal_may_fail : proves below_x True (Some (pos 2)) (alone (plainly no_steps (branch (var 0)
    (case_to (pos 1) no_steps (next (plainly (close ∷ bound (var 1) (pos 0) (pos 0) ∷ []) on_to_goal))
    (case_one no_steps (next (plainly (close ∷ bound (var 1) (pos 0) (pos 1) ∷ []) on_to_goal)) no_more))))) ≡ false
goal_may_fail = refl

-- forall; var 0..1: u; exists; var 0..1: x; var 0..1: y; constraint int_lin_le([1,-1,2],[x,y,u],1); constraint int_lin_le([-1,1,2],[x,y,u],1);
-- exists; var 0..0: z; goal; solve; lost by u = 1, where x and y would have to be less than one another; neither constraint alone says so
abbrev no_pair : Game
no_pair = game (scope Forall ∷ scope Exists ∷ scope Exists ∷ [])
    (variable 0 bit ∷ variable 1 bit ∷ variable 1 bit ∷ variable 2 (Range (pos 0) (pos 0)) ∷ [])
    (sum_at_most 1 (pos 1 ∷ neg_ℤ (pos 1) ∷ pos 2 ∷ []) (Var (var 1) ∷ Var (var 2) ∷ Var (var 0) ∷ []) (pos 1)
    ∷ sum_at_most 1 (neg_ℤ (pos 1) ∷ pos 1 ∷ pos 2 ∷ []) (Var (var 1) ∷ Var (var 2) ∷ Var (var 0) ∷ []) (pos 1) ∷ [])

-- v 1, n, w 0 0, FIRST, n, n, SECOND, .
abbrev after_a_pair : Node → Node → Certificate
after_a_pair first second = alone (plainly no_steps (branch (var 0)
    (case_one no_steps (next (plainly no_steps (chosen (pos 0 ∷ pos 0 ∷ []) first)))
    (case_one no_steps (next (plainly no_steps (next second))) no_more))))

-- for which parts are loose: that of the second node is, since x and y are open
no_pair_is_loose : proves no_pair True None (after_a_pair (plainly no_steps on_to_goal) (plainly no_steps on_to_goal)) ≡ false
no_pair_is_loose = refl

-- for what is told in a loose part, a 1: nothing exact
told_in_no_pair : proves no_pair True None (after_a_pair (named no_steps on_to_goal) (again 0)) ≡ false
told_in_no_pair = refl
