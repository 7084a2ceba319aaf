-- What a follower can count on, and the best value left to what is demanded.
use Rattle.std.proofs.Common.{◌≡◌, refl}
use Rattle.std.specs.Prelude.{List, [], ◌∷◌, true, false, Some, None, pos, ℤ, neg_ℤ}
use Rattle.qc_model.specs.declared.problem.Kind.TheVariants.{Exists, Forall}
use Rattle.qc_model.specs.declared.problem.Sense.TheVariants.{Min, Max}
use Rattle.qc_model.specs.declared.problem.Arg.TheVariants.{Var}
use Rattle.qc_model.specs.declared.problem.Fold.TheVariants.{Sum}
use Rattle.qc_model.specs.declared.problem.Target.TheVariants.{Aggregate as TAgg}
use Rattle.qc_model.specs.declared.problem.Domain.TheVariants.{Range}
use Rattle.qc_model.specs.Content.{Game}
use Rattle.qc_model.specs.declared.problem.Pred.TheVariants.{IntLe, IntLt}
use Rattle.proof_tree.specs.declared.tree.Outcome.TheVariants.{True, False}
use Rattle.proof_tree.proofs.Build.{var, scope, optimising, variable, aggregate}
use Rattle.dense_tree.specs.Tree.{Certificate, Step, Ending, close, bound, reply, empty, best_left, next, branch, no_more}
use Rattle.dense_tree.specs.Proves.{proves}
use Rattle.dense_tree.proofs.Closings.{below_n}
use Rattle.dense_tree.proofs.Words.{bit, game, of_variable, at, num, rule_two, sum_at_most, plainly, no_steps, on_to_goal, case_one, case_to, skip_one, alone}

-- exists maximize c; var 0..3: p; exists minimize c; var 0..1: b; var 0..6: c; constraint int_lin_le([1,-3,-1],[p,b,c],0);
-- constraint int_lin_le([2,-1],[b,c],0); goal; solve;
-- The follower pays the leader's price p, or buys elsewhere, b = 1, for 2: so it pays 2 at most
abbrev pricing : Game
pricing = game (optimising Max (of_variable 2) ∷ optimising Min (of_variable 2) ∷ [])
    (variable 0 (Range (pos 0) (pos 3)) ∷ variable 1 bit ∷ variable 1 (Range (pos 0) (pos 6)) ∷ [])
    (sum_at_most 1 (pos 1 ∷ neg_ℤ (pos 3) ∷ neg_ℤ (pos 1) ∷ []) (Var (var 0) ∷ Var (var 1) ∷ Var (var 2) ∷ []) (pos 0)
    ∷ sum_at_most 1 (pos 2 ∷ neg_ℤ (pos 1) ∷ []) (Var (var 1) ∷ Var (var 2) ∷ []) (pos 0) ∷ [])

-- n, f B C, y
abbrev held_by : ℤ → ℤ → Ending
held_by b c = next (plainly (reply (b ∷ c ∷ []) ∷ []) best_left)

-- v 3, n, g, r 6, b 3 3 6, e, .
abbrev pays_two : Ending
pays_two = branch (var 2) (case_one no_steps on_to_goal (case_to (pos 6) (bound (var 2) (pos 3) (pos 6) ∷ []) empty no_more))

-- n, v 2, c, .., c, .., .
abbrev follower_at_two : Ending
follower_at_two = next (plainly no_steps (branch (var 1) (case_one (close ∷ []) pays_two (case_one (close ∷ []) pays_two no_more))))

-- v 1, r 1, n, f 0 1, y, .., LAST, .: the prices 0 and 1 are held together, in a loose part
abbrev price_of_two : Ending → Certificate
price_of_two last = alone (plainly no_steps (branch (var 0)
    (case_to (pos 1) no_steps (held_by (pos 0) (pos 1)) (case_one no_steps follower_at_two (case_one no_steps last no_more)))))

follower_is_held : proves pricing True (Some (pos 2)) (price_of_two (held_by (pos 1) (pos 2))) ≡ true
follower_is_held = refl

-- exists maximize c; var 0..1: p; exists minimize c; var 0..1: c; constraint int_le(p,c); goal; solve; 1 is reached
abbrev pays_the_price : Game
pays_the_price = game (optimising Max (of_variable 1) ∷ optimising Min (of_variable 1) ∷ []) (variable 0 bit ∷ variable 1 bit ∷ [])
    (rule_two 1 IntLe (at 0) (at 1) ∷ [])

-- v 1, n, v 2, n, g, b 2 1 1, e, ., n, STEPS, LAST, .
abbrev price_of_one : List Step → Ending → Certificate
price_of_one steps last = alone (plainly no_steps (branch (var 0)
    (case_one no_steps (next (plainly no_steps (branch (var 1) (case_one no_steps on_to_goal (case_one (bound (var 1) (pos 1) (pos 1) ∷ []) empty no_more)))))
    (case_one no_steps (next (plainly steps last)) no_more))))

one_is_paid : proves pays_the_price True (Some (pos 1)) (price_of_one (close ∷ []) on_to_goal) ≡ true
one_is_paid = refl

-- for what goes by f, f 1, y: what is worse than the tuple's own value, and not than the best left
worse_reply : proves pays_the_price True (Some (pos 0)) (price_of_one (reply (pos 1 ∷ []) ∷ []) best_left) ≡ false
worse_reply = refl

-- for f, f 0, y: the restriction holds with the tuple. With p = 1 it doesn't
reply_not_allowed : proves pays_the_price True (Some (pos 0)) (price_of_one (reply (pos 0 ∷ []) ∷ []) best_left) ≡ false
reply_not_allowed = refl

-- for the bound of y, n, y: it is the best value left, and not the worst
nothing_held : proves pays_the_price True (Some (pos 0)) (price_of_one no_steps best_left) ≡ false
nothing_held = refl

-- exists maximize c; var 0..1: x; var 0..3: c; constraint int_lin_le([1,-4],[c,x],1); exists minimize c; var 0..0: b; goal; solve;
abbrev earlier_wish : Game
earlier_wish = game (optimising Max (of_variable 1) ∷ optimising Min (of_variable 1) ∷ [])
    (variable 0 bit ∷ variable 0 (Range (pos 0) (pos 3)) ∷ variable 1 (Range (pos 0) (pos 0)) ∷ [])
    (sum_at_most 0 (pos 1 ∷ neg_ℤ (pos 4) ∷ []) (Var (var 1) ∷ Var (var 0) ∷ []) (pos 1) ∷ [])

-- n, n, g
abbrev on_and_on : Ending
on_and_on = next (plainly no_steps on_to_goal)

-- for f, v 1, c, v 2, n, n, g, n, n, g, ., n, f 0, y, .: what is wished for has one value. Here it is open, so the reply says nothing of it
open_wish : proves earlier_wish True (Some (pos 1)) (alone (plainly no_steps (branch (var 0)
    (case_one (close ∷ []) (branch (var 1) (case_one no_steps on_and_on (case_one no_steps on_and_on no_more)))
    (case_one no_steps (next (plainly (reply (pos 0 ∷ []) ∷ []) best_left)) no_more))))) ≡ false
open_wish = refl

-- exists maximize c; var 0..1: p; exists; var 0..1: c; constraint int_le(c,p); goal; solve; 1 is reached
abbrev as_priced : Game
as_priced = game (optimising Max (of_variable 1) ∷ scope Exists ∷ []) (variable 0 bit ∷ variable 1 bit ∷ []) (rule_two 1 IntLe (at 1) (at 0) ∷ [])

-- v 1, n, c, n, g, n, STEPS, LAST, .
abbrev nothing_then : List Step → Ending → Certificate
nothing_then steps last = alone (plainly no_steps (branch (var 0)
    (case_one no_steps (next (plainly (close ∷ []) on_to_goal)) (case_one no_steps (next (plainly steps last)) no_more))))

-- v 2, FIRST, n, g, .
abbrev one_after : Ending → Ending
one_after first = branch (var 1) (case_one no_steps first (case_one no_steps on_to_goal no_more))

one_is_had : proves as_priced True (Some (pos 1)) (nothing_then no_steps (one_after on_to_goal)) ≡ true
one_is_had = refl

-- for y: the node's other leaves are lost or barred. 0 is left here, but an exact leaf stands beside it
best_beside_exact : proves as_priced True (Some (pos 0)) (nothing_then no_steps (one_after best_left)) ≡ false
best_beside_exact = refl

-- for y, b 2 1 1, y: the node has no marks
best_beside_a_mark : proves as_priced True (Some (pos 0)) (nothing_then (bound (var 1) (pos 1) (pos 1) ∷ []) best_left) ≡ false
best_beside_a_mark = refl

-- for the mark of a bound, b 2 0 1, e: it is the best that is given up, and not the worst
best_given_up : proves as_priced True (Some (pos 0)) (nothing_then (bound (var 1) (pos 0) (pos 1) ∷ []) empty) ≡ false
best_given_up = refl

-- for y, y at once: a variable is demanded first
nothing_demanded : proves (below_n (pos 1)) False None (alone (plainly no_steps best_left)) ≡ false
nothing_demanded = refl

-- exists maximize s; var 0..1: p; exists; var 0..0: x; forall; var 0..0: y; aggregate s = sum(z); exists; var 0..1: z; constraint int_le(z,p); goal;
-- solve; 1 is reached with p = 1
abbrev sum_is_priced : Game
sum_is_priced = record {
  scopes = optimising Max (TAgg (record { 0 = 0 })) ∷ scope Exists ∷ scope Forall ∷ scope Exists ∷ [];
  variables = variable 0 bit ∷ variable 1 (Range (pos 0) (pos 0)) ∷ variable 2 (Range (pos 0) (pos 0)) ∷ variable 3 bit ∷ [];
  aggregates = aggregate 2 Sum (of_variable 3) ∷ [];
  constraints = rule_two 3 IntLe (at 3) (at 0) ∷ [];
}

-- for y, v 1, n, n, n, c, n, g, n, y, .: what is demanded first is no aggregate
sum_demanded : proves sum_is_priced True (Some (pos 0)) (alone (plainly no_steps (branch (var 0)
    (case_one no_steps (next (plainly no_steps (next (plainly no_steps (next (plainly (close ∷ []) on_to_goal))))))
    (case_one no_steps (next (plainly no_steps best_left)) no_more))))) ≡ false
sum_demanded = refl

-- exists maximize x; var 0..1: x; forall; var 0..1: y; goal; constraint int_le(x,0); solve; 0 is reached
abbrev zero_passes : Game
zero_passes = game (optimising Max (of_variable 0) ∷ scope Forall ∷ []) (variable 0 bit ∷ variable 1 bit ∷ []) (rule_two 2 IntLe (at 0) (num (pos 0)) ∷ [])

-- for y, b 1 0 0, n, y: the scope is the player's, or it would have no leaf, as where the opponent is stuck
opponents_best : proves zero_passes True (Some (pos 1)) (alone (plainly (bound (var 0) (pos 0) (pos 0) ∷ []) (next (plainly no_steps best_left)))) ≡ false
opponents_best = refl

-- exists maximize s; forall; var 0..1: y; aggregate s = sum(z); exists; var 0..1: z; constraint int_lt(y,1); goal; solve; lost by y = 1
abbrev sum_is_lost : Game
sum_is_lost = record {
  scopes = optimising Max (TAgg (record { 0 = 0 })) ∷ scope Forall ∷ scope Exists ∷ [];
  variables = variable 1 bit ∷ variable 2 bit ∷ [];
  aggregates = aggregate 1 Sum (of_variable 1) ∷ [];
  constraints = rule_two 2 IntLt (at 0) (num (pos 1)) ∷ [];
}

-- n, v 1, n, b 2 0 1, LAST, n, e, .
abbrev all_given_up_then : Ending → Certificate
all_given_up_then last = alone (plainly no_steps (next (plainly no_steps (branch (var 0)
    (case_one no_steps (next (plainly (bound (var 1) (pos 0) (pos 1) ∷ []) last)) (case_one no_steps (next (plainly no_steps empty)) no_more))))))

empty_for_zero : proves sum_is_lost False None (all_given_up_then empty) ≡ true
empty_for_zero = refl

-- for y: something is left to each variable
best_of_nothing_left : proves sum_is_lost False None (all_given_up_then best_left) ≡ false
best_of_nothing_left = refl

-- exists minimize c; var 0..1: c; goal; solve;
abbrev least_of_two : Game
least_of_two = game (optimising Min (of_variable 0) ∷ []) (variable 0 bit ∷ []) []

-- f V, e
abbrev holds_then_empty : ℤ → Certificate
holds_then_empty v = alone (plainly (reply (v ∷ []) ∷ []) empty)

-- for what goes by f, f 0, e: what is worse, and not 0 itself
reply_itself_stays : proves least_of_two False None (holds_then_empty (pos 0)) ≡ false
reply_itself_stays = refl

-- exists minimize c; var 2..3: c; goal; solve;
abbrev least_is_two : Game
least_is_two = game (optimising Min (of_variable 0) ∷ []) (variable 0 (Range (pos 2) (pos 3)) ∷ []) []

-- for f, f 1, e: the tuple is of values left
no_such_reply : proves least_is_two False None (holds_then_empty (pos 1)) ≡ false
no_such_reply = refl

-- exists minimize c; var 0..1: c; goal; constraint int_le(1,c); solve; and the same with exists; var 0..0: z; before the goal
abbrev one_at_the_goal : Game
one_at_the_goal = game (optimising Min (of_variable 0) ∷ []) (variable 0 bit ∷ []) (rule_two 1 IntLe (num (pos 1)) (at 0) ∷ [])

abbrev one_after_another : Game
one_after_another = game (optimising Min (of_variable 0) ∷ scope Exists ∷ []) (variable 0 bit ∷ variable 1 (Range (pos 0) (pos 0)) ∷ [])
    (rule_two 2 IntLe (num (pos 1)) (at 0) ∷ [])

-- for f, f 0, e: with the tuple the goal holds
reply_loses : proves one_at_the_goal False None (holds_then_empty (pos 0)) ≡ false
reply_loses = refl

-- for f, f 0, v 1, n, g, s, .: the scope has a condition
reply_without_wish : proves (below_n (pos 1)) True None
    (alone (plainly (reply (pos 0 ∷ []) ∷ []) (branch (var 0) (case_one no_steps on_to_goal (skip_one no_more))))) ≡ false
reply_without_wish = refl

-- for f, f 0, e: the scope is the last one
reply_too_early : proves one_after_another False None (holds_then_empty (pos 0)) ≡ false
reply_too_early = refl

-- exists maximize s; var 0..1: p; forall; var 0..1: y; aggregate s = sum(z); exists; var 0..1: z; constraint int_lin_le([1,-1,-1],[z,y,p],0);
-- goal; solve; 2 is reached with p = 1
abbrev two_branches : Game
two_branches = record {
  scopes = optimising Max (TAgg (record { 0 = 0 })) ∷ scope Forall ∷ scope Exists ∷ [];
  variables = variable 0 bit ∷ variable 1 bit ∷ variable 2 bit ∷ [];
  aggregates = aggregate 1 Sum (of_variable 2) ∷ [];
  constraints = sum_at_most 2 (pos 1 ∷ neg_ℤ (pos 1) ∷ neg_ℤ (pos 1) ∷ []) (Var (var 2) ∷ Var (var 1) ∷ Var (var 0) ∷ []) (pos 0) ∷ [];
}

-- v 1, n, v 2, n, c, n, g, n, b 3 0 0, n, g, ., n, LAST, .
abbrev sums_then : Ending → Certificate
sums_then last = alone (plainly no_steps (branch (var 0)
    (case_one no_steps (next (plainly no_steps (branch (var 1) (case_one no_steps (next (plainly (close ∷ []) on_to_goal))
    (case_one no_steps (next (plainly (bound (var 2) (pos 0) (pos 0) ∷ []) on_to_goal)) no_more)))))
    (case_one no_steps (next (plainly no_steps last)) no_more))))

-- for the opponent's n, n, y: his values are single, or his two branches would count as one
opponent_goes_early : proves two_branches True (Some (pos 1)) (sums_then (next (plainly no_steps best_left))) ≡ false
opponent_goes_early = refl

-- v 2, n, b 3 0 0, n, g, n, b 3 0 0, n, g, .
both_branches : proves two_branches True (Some (pos 2)) (sums_then (branch (var 1) (case_one no_steps (next (plainly (bound (var 2) (pos 0) (pos 0) ∷ []) on_to_goal))
    (case_one no_steps (next (plainly (bound (var 2) (pos 0) (pos 0) ∷ []) on_to_goal)) no_more)))) ≡ true
both_branches = refl
