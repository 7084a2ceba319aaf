-- In a free problem the goal is in force before the opponent moves, and no play means lost.
use Rattle.std.proofs.Common.{◌≡◌, refl}
use Rattle.std.specs.Prelude.{Option, [], ◌∷◌, true, false, Some, None, pos, ℤ}
use Rattle.qc_model.specs.declared.problem.Kind.TheVariants.{Exists, Forall}
use Rattle.qc_model.specs.declared.problem.Domain.TheVariants.{Range}
use Rattle.qc_model.specs.declared.problem.Pred.{Pred}
use Rattle.qc_model.specs.declared.problem.Pred.TheVariants.{IntEq, IntNe, IntLt, IntLe}
use Rattle.qc_model.specs.declared.problem.ScopeId.{ScopeId}
use Rattle.qc_model.specs.Content.{Game}
use Rattle.proof_tree.specs.declared.tree.Outcome.TheVariants.{True, False}
use Rattle.proof_tree.proofs.Build.{var, scope, variable}
use Rattle.dense_tree.specs.Tree.{Certificate, Node, node, no_play, dead, close, cases, empty, next, branch, no_more}
use Rattle.dense_tree.specs.Proves.{proves}
use Rattle.dense_tree.proofs.Words.{bit, scope_id, game, at, num, rule_two, plainly, no_steps, on_to_goal, case_one, skip_one, alone, given_of, with_given, at_goal, at_stuck}

-- exists; var 0..3: x; forall; var 0..1: y; exists; var 0..1: z; constraint int_le(z,1); goal; constraint int_le(2,x); constraint int_eq(y,z); solve;
abbrev answer_in_kind : Game
answer_in_kind = game (scope Exists ∷ scope Forall ∷ scope Exists ∷ [])
    (variable 0 (Range (pos 0) (pos 3)) ∷ variable 1 bit ∷ variable 2 bit ∷ [])
    (rule_two 2 IntLe (at 2) (num (pos 1)) ∷ rule_two 3 IntLe (num (pos 2)) (at 0) ∷ rule_two 3 IntEq (at 1) (at 2) ∷ [])

-- c, v 1, n, v 2, c, n, n, g, c, n, n, g, ., s, .
abbrev by_the_goal : Certificate
by_the_goal = alone (plainly (close ∷ []) (branch (var 0) (case_one no_steps (next (plainly no_steps (branch (var 1)
    (case_one (close ∷ []) (next (plainly no_steps on_to_goal)) (case_one (close ∷ []) (next (plainly no_steps on_to_goal)) no_more))))) (skip_one no_more))))

joint_closing : proves answer_in_kind True None by_the_goal ≡ true
joint_closing = refl

-- exists; var 0..1: x; forall; var 0..1: y; exists; var 0..1: z; constraint int_le(z,x); goal; constraint int_le(y,z); constraint int_le(y,0); solve;
abbrev move_without_answer : Game
move_without_answer = game (scope Exists ∷ scope Forall ∷ scope Exists ∷ []) (variable 0 bit ∷ variable 1 bit ∷ variable 2 bit ∷ [])
    (rule_two 2 IntLe (at 2) (at 0) ∷ rule_two 3 IntLe (at 1) (at 2) ∷ rule_two 3 IntLe (at 1) (num (pos 0)) ∷ [])

-- e, since the goal refutes y = 1, which the opponent may take
answerless : proves move_without_answer False None (alone (plainly no_steps empty)) ≡ true
answerless = refl

-- c, v 1, n, n, c, n, g, s, .
abbrev after_closing : Certificate
after_closing = alone (plainly (close ∷ []) (branch (var 0) (case_one no_steps (next (plainly no_steps (next (plainly (close ∷ []) on_to_goal)))) (skip_one no_more))))

-- for what c takes: no value of y, so after it both of the opponent's moves are still owed
moves_stay : proves move_without_answer True None after_closing ≡ false
moves_stay = refl

-- for e at a scope of the opponent, v 1, n, e, s, .: where he may take any tuple it is a lost leaf
empty_is_lost : proves move_without_answer True None
    (alone (plainly no_steps (branch (var 0) (case_one no_steps (next (plainly no_steps empty)) (skip_one no_more))))) ≡ false
empty_is_lost = refl

-- forall; var 0..2: y; goal; PREDICATE(N,y); solve;
abbrev any_but : Pred → ℤ → Game
any_but p n = game (scope Forall ∷ []) (variable 0 (Range (pos 0) (pos 2)) ∷ []) (rule_two 1 p (num n) (at 0) ∷ [])

-- e, int_le(1,y): y = 0 has no answer
least_answerless : proves (any_but IntLe (pos 1)) False None (alone (plainly no_steps empty)) ≡ true
least_answerless = refl

-- for moves without an answer, e, int_ne(1,y): they are ends
inner_answerless : proves (any_but IntNe (pos 1)) False None (alone (plainly no_steps empty)) ≡ false
inner_answerless = refl

-- exists; var 0..1: x; forall; var 0..1: y; constraint int_le(y,x); exists; var 0..0: z; constraint int_lt(y,1); goal; solve; won by x = 0
abbrev kept_out : Game
kept_out = game (scope Exists ∷ scope Forall ∷ scope Exists ∷ []) (variable 0 bit ∷ variable 1 bit ∷ variable 2 (Range (pos 0) (pos 0)) ∷ [])
    (rule_two 1 IntLe (at 1) (at 0) ∷ rule_two 2 IntLt (at 1) (num (pos 1)) ∷ [])

-- for moves without an answer, u 2 0, e: the opponent may take them. y = 1 may be forbidden
restricted_move : proves kept_out False None (with_given (given_of 1 (pos 0) ∷ []) (plainly no_steps empty)) ≡ false
restricted_move = refl

-- u 2 0, v 1, n, c, n, n, g, s, .
kept_by_zero : proves kept_out True None (with_given (given_of 1 (pos 0) ∷ []) (plainly no_steps (branch (var 0)
    (case_one no_steps (next (plainly (close ∷ []) (next (plainly no_steps on_to_goal)))) (skip_one no_more))))) ≡ true
kept_by_zero = refl

-- exists; var 0..1: x; forall; var 0..1: y; constraint int_le(y,0); goal; constraint int_lt(x,0); solve; lost
abbrev lost_at_the_goal : Game
lost_at_the_goal = game (scope Exists ∷ scope Forall ∷ []) (variable 0 bit ∷ variable 1 bit ∷ [])
    (rule_two 1 IntLe (at 1) (num (pos 0)) ∷ rule_two 2 IntLt (at 0) (num (pos 0)) ∷ [])

-- for joint closing, u 2 0, v 1, n, e, s, .: not at a restricted scope of the opponent, where nothing left means that he is stuck
not_at_his_scope : proves lost_at_the_goal True None (with_given (given_of 1 (pos 0) ∷ [])
    (plainly no_steps (branch (var 0) (case_one no_steps (next (plainly no_steps empty)) (skip_one no_more))))) ≡ false
not_at_his_scope = refl

-- exists; var 0..1: x; forall; var 0..1: y; exists; var 0..1: z; constraint int_lt(z,x); goal; constraint int_lt(x,z); solve;
abbrev pub contrary : Game
contrary = game (scope Exists ∷ scope Forall ∷ scope Exists ∷ []) (variable 0 bit ∷ variable 1 bit ∷ variable 2 bit ∷ [])
    (rule_two 2 IntLt (at 2) (at 0) ∷ rule_two 3 IntLt (at 0) (at 2) ∷ [])

-- l 4
abbrev pub no_play_at_all : Certificate
no_play_at_all = alone (no_play (scope_id 3))

no_play_is_lost : proves contrary False None no_play_at_all ≡ true
no_play_is_lost = refl

-- for l K: nobody passes the scopes up to K. Up to the third some play is left
play_is_left : proves contrary False None (alone (no_play (scope_id 2))) ≡ false
play_is_left = refl

-- for l K, l 5: K lies ahead, and not beyond the goal
play_beyond_the_goal : proves contrary False None (alone (no_play (scope_id 4))) ≡ false
play_beyond_the_goal = refl

-- the same where the opponent is always stuck: constraint int_lt(y,0) of its scope. The game is won
abbrev pub opponent_is_stuck : Game
opponent_is_stuck = game (scope Exists ∷ scope Forall ∷ scope Exists ∷ []) (variable 0 bit ∷ variable 1 bit ∷ variable 2 bit ∷ [])
    (rule_two 1 IntLt (at 1) (num (pos 0)) ∷ rule_two 2 IntLt (at 2) (at 0) ∷ rule_two 3 IntLt (at 0) (at 2) ∷ [])

-- for l K: the opponent is never stuck
not_free : proves opponent_is_stuck False None no_play_at_all ≡ false
not_free = refl

-- v 1, n, e, s, .
won_by_the_stuck : proves opponent_is_stuck True None (alone (plainly no_steps (branch (var 0) (case_one no_steps (next (plainly no_steps empty)) (skip_one no_more))))) ≡ true
won_by_the_stuck = refl

-- for e at a scope of the opponent, v 1, n, e, n, e, .: where it has a restriction it is no lost leaf
stuck_is_not_lost : proves opponent_is_stuck False None (alone (plainly no_steps (branch (var 0)
    (case_one no_steps (next (plainly no_steps empty)) (case_one no_steps (next (plainly no_steps empty)) no_more))))) ≡ false
stuck_is_not_lost = refl

-- forall; var 0..1: y; goal; constraint int_le(y,0); solve; lost by y = 1, but y = 0 passes
abbrev one_move_passes : Game
one_move_passes = game (scope Forall ∷ []) (variable 0 bit ∷ []) (rule_two 1 IntLe (at 0) (num (pos 0)) ∷ [])

-- v 1, n, END, n, END, .
abbrev each_goal : Option ScopeId → Node → Certificate
each_goal h end = alone (node false h (cases no_steps (branch (var 0) (case_one no_steps (next end) (case_one no_steps (next end) no_more)))))

goals_are_seen : proves one_move_passes False None (each_goal None at_goal) ≡ true
goals_are_seen = refl

-- for h K, h 2, .. t: nobody passes the scopes up to K. That a move has no answer isn't enough, as it is for e
some_pass : proves one_move_passes False None (each_goal (Some (scope_id 1)) at_stuck) ≡ false
some_pass = refl

-- v 1, l 4, l 4, .: so too at an end
no_play_at_ends : proves contrary False None (alone (plainly no_steps (branch (var 0) (case_one no_steps (dead (scope_id 3)) (case_one no_steps (dead (scope_id 3)) no_more))))) ≡ true
no_play_at_ends = refl

-- forall; var 0..1: y; exists; var 0..0: z; constraint int_lt(y,1); goal; solve; lost by y = 1
abbrev lost_by_one : Game
lost_by_one = game (scope Forall ∷ scope Exists ∷ []) (variable 0 bit ∷ variable 1 (Range (pos 0) (pos 0)) ∷ []) (rule_two 1 IntLt (at 0) (num (pos 1)) ∷ [])

-- the same with constraint int_le(y,0) before exists: won, since y = 1 is forbidden
abbrev one_is_forbidden : Game
one_is_forbidden = game (scope Forall ∷ scope Exists ∷ []) (variable 0 bit ∷ variable 1 (Range (pos 0) (pos 0)) ∷ [])
    (rule_two 0 IntLe (at 0) (num (pos 0)) ∷ rule_two 1 IntLt (at 0) (num (pos 1)) ∷ [])

-- v 1, s, l 2, .
abbrev one_is_lost : Node
one_is_lost = plainly no_steps (branch (var 0) (skip_one (case_one no_steps (dead (scope_id 1)) no_more)))

lost_among_tuples : proves lost_by_one False None (alone one_is_lost) ≡ true
lost_among_tuples = refl

-- for l K as an end, u 1 0, v 1, s, l 2, .: not among the opponent's tuples where some are forbidden
forbidden_tuple : proves one_is_forbidden False None (with_given (given_of 0 (pos 0) ∷ []) one_is_lost) ≡ false
forbidden_tuple = refl
