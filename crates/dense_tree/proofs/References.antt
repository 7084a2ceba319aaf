-- What a node came to is told again where the positions look the same.
use Rattle.std.proofs.Common.{◌≡◌, refl}
use Rattle.std.specs.Prelude.{List, [], ◌∷◌, true, false, Some, None, pos, neg_ℤ}
use Rattle.qc_model.specs.declared.problem.Kind.TheVariants.{Exists, Forall}
use Rattle.qc_model.specs.declared.problem.Sense.TheVariants.{Max}
use Rattle.qc_model.specs.declared.problem.Fold.TheVariants.{Least}
use Rattle.qc_model.specs.declared.problem.Arg.TheVariants.{Var}
use Rattle.qc_model.specs.declared.problem.Target.TheVariants.{Aggregate as TAgg}
use Rattle.qc_model.specs.declared.problem.Domain.TheVariants.{Bits, Range}
use Rattle.qc_model.specs.declared.problem.Argument.TheVariants.{Many}
use Rattle.qc_model.specs.declared.problem.Pred.TheVariants.{IntLe, IntLt, BoolClause}
use Rattle.qc_model.specs.Content.{Game}
use Rattle.proof_tree.specs.declared.tree.Outcome.TheVariants.{True, False}
use Rattle.proof_tree.proofs.Build.{var, scope, optimising, variable, aggregate, rule}
use Rattle.dense_tree.specs.Tree.{Certificate, Step, Node, node, again, Ending, close, bound, stuck, goal, cases, empty, next, branch, no_more}
use Rattle.dense_tree.specs.Proves.{proves}
use Rattle.dense_tree.proofs.Words.{bit, scope_id, game, of_variable, at, num, rule_two, sum_at_most, plainly, named, no_steps, on_to_goal, at_stuck, case_one, skip_one, alone}

-- forall; var 0..1: u; exists; var 0..1: y; constraint int_le(1,y); goal; solve;
abbrev same_below : Game
same_below = game (scope Forall ∷ scope Exists ∷ []) (variable 0 bit ∷ variable 1 bit ∷ []) (rule_two 1 IntLe (num (pos 1)) (at 1) ∷ [])

-- v 1, n, m, c, n, g, n, a 1, .
abbrev told_again : Certificate
told_again = alone (plainly no_steps (branch (var 0) (case_one no_steps (next (named (close ∷ []) on_to_goal)) (case_one no_steps (next (again 0)) no_more))))

same_position : proves same_below True None told_again ≡ true
same_position = refl

-- the same but for constraint int_lt(u,y), and for int_lin_le([1,-1],[u,y],-1): lost by u = 1
abbrev other_below : Game
other_below = game (scope Forall ∷ scope Exists ∷ []) (variable 0 bit ∷ variable 1 bit ∷ []) (rule_two 1 IntLt (at 0) (at 1) ∷ [])

abbrev other_sum_below : Game
other_sum_below = game (scope Forall ∷ scope Exists ∷ []) (variable 0 bit ∷ variable 1 bit ∷ [])
    (sum_at_most 1 (pos 1 ∷ neg_ℤ (pos 1) ∷ []) (Var (var 0) ∷ Var (var 1) ∷ []) (neg_ℤ (pos 1)) ∷ [])

-- for a 1: what a constraint reads by value is the same
other_position : proves other_below True None told_again ≡ false
other_position = refl

-- for a 1: what a sum sees is the same
other_sum : proves other_sum_below True None told_again ≡ false
other_sum = refl

-- forall; var 0..1: u; exists; var 0..1: y; constraint int_lin_le([1,1],[u,y],3); goal; solve;
abbrev any_sum_below : Game
any_sum_below = game (scope Forall ∷ scope Exists ∷ []) (variable 0 bit ∷ variable 1 bit ∷ [])
    (sum_at_most 1 (pos 1 ∷ pos 1 ∷ []) (Var (var 0) ∷ Var (var 1) ∷ []) (pos 3) ∷ [])

-- v 1, n, m, v 2, n, g, s, ., n, a 1, .
abbrev told_of_one : Certificate
told_of_one = alone (plainly no_steps (branch (var 0)
    (case_one no_steps (next (named no_steps (branch (var 1) (case_one no_steps on_to_goal (skip_one no_more))))) (case_one no_steps (next (again 0)) no_more))))

-- for a 1: a sum that holds whatever comes sees nothing
sees_nothing : proves any_sum_below True None told_of_one ≡ true
sees_nothing = refl

-- forall; var bool: u; exists; var bool: y; constraint bool_clause([],[u]); goal; solve; lost by u
abbrev clause_below : Game
clause_below = game (scope Forall ∷ scope Exists ∷ []) (variable 0 Bits ∷ variable 1 Bits ∷ [])
    (rule 1 BoolClause (Many [] ∷ Many (Var (var 0) ∷ []) ∷ []) ∷ [])

-- for a 1: what a clause sees is the same
other_clause : proves clause_below True None told_of_one ≡ false
other_clause = refl

-- exists maximize x; var 0..1: x; exists; var 0..0: y; goal; solve;
abbrev greatest_first_x : Game
greatest_first_x = game (optimising Max (of_variable 0) ∷ scope Exists ∷ []) (variable 0 bit ∷ variable 1 (Range (pos 0) (pos 0)) ∷ []) []

-- for a 1, v 1, n, m, n, g, n, a 1, .: what a condition mentions is the same
other_wish : proves greatest_first_x True (Some (pos 0)) (alone (plainly no_steps (branch (var 0)
    (case_one no_steps (next (named no_steps on_to_goal)) (case_one no_steps (next (again 0)) no_more))))) ≡ false
other_wish = refl

-- exists maximize x; var 0..2: w; var 0..1: x; exists; var 0..0: y; goal; solve;
abbrev wish_of_three : Game
wish_of_three = game (optimising Max (of_variable 1) ∷ scope Exists ∷ [])
    (variable 0 (Range (pos 0) (pos 2)) ∷ variable 0 bit ∷ variable 1 (Range (pos 0) (pos 0)) ∷ []) []

-- v 1, n, m, n, g, n, SECOND, v 2, n, n, g, n, n, g, ., .
abbrev wish_then : Node → Certificate
wish_then second = alone (plainly no_steps (branch (var 0) (case_one no_steps (next (named no_steps on_to_goal)) (case_one no_steps (next second)
    (case_one no_steps (branch (var 1) (case_one no_steps (next (plainly no_steps on_to_goal)) (case_one no_steps (next (plainly no_steps on_to_goal)) no_more))) no_more)))))

wish_said : proves wish_of_three True (Some (pos 1)) (wish_then (plainly no_steps on_to_goal)) ≡ true
wish_said = refl

-- for a 1: what a condition mentions has one value
open_wish_told : proves wish_of_three True (Some (pos 1)) (wish_then (again 0)) ≡ false
open_wish_told = refl

-- exists; var 0..1: x; exists; var 0..1: y; constraint int_le(1,y); goal; solve; won, whatever x is
abbrev own_below : Game
own_below = game (scope Exists ∷ scope Exists ∷ []) (variable 0 bit ∷ variable 1 bit ∷ []) (rule_two 1 IntLe (num (pos 1)) (at 1) ∷ [])

-- for a 1, v 1, n, a 1, n, m, c, n, g, .: the node has been read
told_early : proves own_below True None (alone (plainly no_steps (branch (var 0)
    (case_one no_steps (next (again 0)) (case_one no_steps (next (named (close ∷ []) on_to_goal)) no_more))))) ≡ false
told_early = refl

-- exists; var 0..1: x; forall; var 0..1: y; goal; constraint int_le(y,0); solve; lost by y = 1
abbrev one_too_many : Game
one_too_many = game (scope Exists ∷ scope Forall ∷ []) (variable 0 bit ∷ variable 1 bit ∷ []) (rule_two 2 IntLe (at 1) (num (pos 0)) ∷ [])

-- for a 1, v 1, n, v 2, n, m, g, s, ., n, a 1, .: the node is of the same scope, and not of the next, where y = 0
other_scope : proves one_too_many True None (alone (plainly no_steps (branch (var 0)
    (case_one no_steps (next (plainly no_steps (branch (var 1) (case_one no_steps (next (node true None goal)) (skip_one no_more)))))
    (case_one no_steps (next (again 0)) no_more))))) ≡ false
other_scope = refl

-- exists maximize y; var 0..1: x; exists; var 0..1: y; goal; solve;
abbrev greatest_y : Game
greatest_y = game (optimising Max (of_variable 1) ∷ scope Exists ∷ []) (variable 0 bit ∷ variable 1 bit ∷ []) []

-- v 1, n, m, b 2 0 0, n, g, STEPS, n, a 1, .
abbrev then_told : List Step → Certificate
then_told steps = alone (plainly no_steps (branch (var 0)
    (case_one no_steps (next (named (bound (var 1) (pos 0) (pos 0) ∷ []) on_to_goal)) (case_one steps (next (again 0)) no_more))))

told_without_a_bound : proves greatest_y True (Some (pos 1)) (then_told no_steps) ≡ true
told_without_a_bound = refl

-- for a 1, b 2 0 0, n, a 1: no bound of the block stands above this place, or as much is left
told_below_its_bound : proves greatest_y True (Some (pos 1)) (then_told (bound (var 1) (pos 0) (pos 0) ∷ [])) ≡ false
told_below_its_bound = refl

-- exists maximize x; var 0..1: x; forall; var 0..1: y; exists; var 0..1: z; goal; constraint int_le(1,z); solve;
abbrev beyond_a_block : Game
beyond_a_block = game (optimising Max (of_variable 0) ∷ scope Forall ∷ scope Exists ∷ []) (variable 0 bit ∷ variable 1 bit ∷ variable 2 bit ∷ [])
    (rule_two 3 IntLe (num (pos 1)) (at 2) ∷ [])

-- for bounds of the block, b 1 0 0, n, v 2, n, m, c, n, g, c, n, a 1, .: the one above is of an earlier block, so less may be left to z
bound_ends_with_its_block : proves beyond_a_block True (Some (pos 1)) (alone (plainly (bound (var 0) (pos 0) (pos 0) ∷ []) (next (plainly no_steps (branch (var 1)
    (case_one no_steps (next (named (close ∷ []) on_to_goal)) (case_one (close ∷ []) (next (again 0)) no_more))))))) ≡ true
bound_ends_with_its_block = refl

-- forall; var 0..1: u; exists; var 0..1: y; exists; var 0..1: z; constraint int_lt(z,0); goal; solve;
abbrev nobody_passes : Game
nobody_passes = game (scope Forall ∷ scope Exists ∷ scope Exists ∷ []) (variable 0 bit ∷ variable 1 bit ∷ variable 2 bit ∷ [])
    (rule_two 2 IntLt (at 2) (num (pos 0)) ∷ [])

-- v 1, n, v 2, n, m, e, n, a 1, ., n, h 3, v 2, n, LAST, n, LAST, ., .
abbrev below_a_horizon : Node → Certificate
below_a_horizon last = alone (plainly no_steps (branch (var 0)
    (case_one no_steps (next (plainly no_steps (branch (var 1) (case_one no_steps (next (named no_steps empty)) (case_one no_steps (next (again 0)) no_more)))))
    (case_one no_steps (next (node false (Some (scope_id 2)) (cases no_steps (branch (var 1) (case_one no_steps (next last) (case_one no_steps (next last) no_more)))))) no_more))))

stuck_at_the_horizon : proves nobody_passes False None (below_a_horizon at_stuck) ≡ true
stuck_at_the_horizon = refl

-- for a 1: the horizon in force is the same
other_horizon : proves nobody_passes False None (below_a_horizon (again 0)) ≡ false
other_horizon = refl

-- exists; var 0..1: x; exists; var 0..1: y; exists; var 0..1: z; constraint int_lt(z,0); goal; solve;
abbrev nobody_passes_open : Game
nobody_passes_open = game (scope Exists ∷ scope Exists ∷ scope Exists ∷ []) (variable 0 bit ∷ variable 1 bit ∷ variable 2 bit ∷ [])
    (rule_two 2 IntLt (at 2) (num (pos 0)) ∷ [])

-- h 3, FIRST, v 2, n, m, t, n, LAST, .: where FIRST takes x, or leaves it open
abbrev told_at_a_horizon : (Ending → Ending) → Node → Certificate
told_at_a_horizon first last = alone (node false (Some (scope_id 2)) (cases no_steps
    (first (branch (var 1) (case_one no_steps (next (node true None stuck)) (case_one no_steps (next last) no_more))))))

abbrev taken_first : Ending → Ending
taken_first end = branch (var 0) (case_one no_steps (next (plainly no_steps end)) (case_one no_steps (next (plainly no_steps end)) no_more))

abbrev open_first : Ending → Ending
open_first end = next (plainly no_steps end)

-- m names two nodes here, and the first is told again
told_at_one : proves nobody_passes_open False None (told_at_a_horizon taken_first (again 0)) ≡ true
told_at_one = refl

-- for a 1: the node isn't loose below a horizon. With x open nobody is known to pass it from each position there
told_at_several : proves nobody_passes_open False None (told_at_a_horizon open_first (again 0)) ≡ false
told_at_several = refl

said_at_several : proves nobody_passes_open False None (told_at_a_horizon open_first at_stuck) ≡ true
said_at_several = refl

-- exists maximize s; forall; var 0..1: x; aggregate s = least(z) else 0; exists; var 0..3: z; constraint int_lin_le([2,1],[x,z],3); goal; solve;
abbrev pruned_sum : Game
pruned_sum = record {
  scopes = optimising Max (TAgg (record { 0 = 0 })) ∷ scope Forall ∷ scope Exists ∷ [];
  variables = variable 1 bit ∷ variable 2 (Range (pos 0) (pos 3)) ∷ [];
  aggregates = aggregate 1 (Least (pos 0)) (of_variable 1) ∷ [];
  constraints = sum_at_most 2 (pos 2 ∷ pos 1 ∷ []) (Var (var 0) ∷ Var (var 1) ∷ []) (pos 3) ∷ [];
}

-- v 2, r 2, n, g, ..: the greatest z by a bound
abbrev greatest_first : Node → Certificate
greatest_first second = alone (plainly no_steps (next (plainly no_steps (branch (var 0)
    (case_one no_steps (next (named (bound (var 1) (pos 0) (pos 2) ∷ []) on_to_goal)) (case_one (close ∷ []) (next second) no_more))))))

-- b 2 0 0 and b 2 0 2 are marks that 1 and 3 beat
pruned_right : proves pruned_sum True (Some (pos 1)) (greatest_first (plainly (bound (var 1) (pos 0) (pos 0) ∷ []) on_to_goal)) ≡ true
pruned_right = refl

-- after x = 1 closing leaves z = 0 and z = 1, which the sum lets pass; judged by what is left it would look as after x = 0
-- for a 1: what holds whatever comes is judged by the declared domains
judged_as_declared : proves pruned_sum True (Some (pos 3)) (greatest_first (again 0)) ≡ false
judged_as_declared = refl

-- exists; var 0..1: w; var 0..2: x; constraint int_lin_le([1,-2],[x,w],0); forall; var 0..1: y; constraint int_le(y,1); exists; var 0..0: z;
-- constraint int_lin_le([-1],[x],-1); goal; solve; won with x = 1
abbrev open_is_read : Game
open_is_read = game (scope Exists ∷ scope Forall ∷ scope Exists ∷ [])
    (variable 0 bit ∷ variable 0 (Range (pos 0) (pos 2)) ∷ variable 1 bit ∷ variable 2 (Range (pos 0) (pos 0)) ∷ [])
    (sum_at_most 0 (pos 1 ∷ neg_ℤ (pos 2) ∷ []) (Var (var 1) ∷ Var (var 0) ∷ []) (pos 0) ∷ rule_two 1 IntLe (at 2) (num (pos 1))
    ∷ sum_at_most 2 (neg_ℤ (pos 1) ∷ []) (Var (var 1) ∷ []) (neg_ℤ (pos 1)) ∷ [])

-- v 1, c, n, v 3, n, m, e, s, ., n, v 3, n, SECOND, s, ., .
abbrev told_of_open : Node → Certificate
told_of_open second = alone (plainly no_steps (branch (var 0)
    (case_one (close ∷ []) (next (plainly no_steps (branch (var 2) (case_one no_steps (next (named no_steps empty)) (skip_one no_more)))))
    (case_one no_steps (next (plainly no_steps (branch (var 2) (case_one no_steps (next second) (skip_one no_more))))) no_more))))

-- for a 1: what is read has one value here. x is open, and only its least value is that of the first
open_position : proves open_is_read False None (told_of_open (again 0)) ≡ false
open_position = refl

-- exists; var 0..1: w; var 0..1: x; exists; var 0..0: z; constraint int_lin_le([-1,-1],[x,z],-2); goal; solve;
abbrev open_first_time : Game
open_first_time = game (scope Exists ∷ scope Exists ∷ []) (variable 0 bit ∷ variable 0 bit ∷ variable 1 (Range (pos 0) (pos 0)) ∷ [])
    (sum_at_most 1 (neg_ℤ (pos 1) ∷ neg_ℤ (pos 1) ∷ []) (Var (var 1) ∷ Var (var 2) ∷ []) (neg_ℤ (pos 2)) ∷ [])

-- v 1, n, m, e, v 2, n, SECOND, n, e, ., .
abbrev told_once_open : Node → Certificate
told_once_open second = alone (plainly no_steps (branch (var 0) (case_one no_steps (next (named no_steps empty))
    (case_one no_steps (branch (var 1) (case_one no_steps (next second) (case_one no_steps (next (plainly no_steps empty)) no_more))) no_more))))

each_is_lost : proves open_first_time False None (told_once_open (plainly no_steps empty)) ≡ true
each_is_lost = refl

-- for a 1: what is read had one value there, so that there is one position
open_node : proves open_first_time False None (told_once_open (again 0)) ≡ false
open_node = refl
