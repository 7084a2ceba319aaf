-- Certificates that looser rules would believe, though the games say otherwise.
use Rattle.std.proofs.Common.{◌≡◌, refl}
use Rattle.std.specs.Prelude.{[], ◌∷◌, true, false, Some, None, pos}
use Rattle.qc_model.specs.declared.problem.Kind.TheVariants.{Exists, Forall}
use Rattle.qc_model.specs.declared.problem.Sense.TheVariants.{Min, Max}
use Rattle.qc_model.specs.declared.problem.Arg.TheVariants.{Var}
use Rattle.qc_model.specs.declared.problem.Fold.TheVariants.{Sum}
use Rattle.qc_model.specs.declared.problem.Target.TheVariants.{Aggregate as TAgg}
use Rattle.qc_model.specs.declared.problem.Domain.TheVariants.{Range}
use Rattle.qc_model.specs.declared.problem.Pred.TheVariants.{IntLe, IntLt}
use Rattle.qc_model.specs.Content.{Game}
use Rattle.proof_tree.specs.declared.tree.Outcome.TheVariants.{True, False}
use Rattle.proof_tree.proofs.Build.{var, scope, optimising, variable, aggregate}
use Rattle.dense_tree.specs.Tree.{Node, no_play, barred, again, Certificate, Ending, close, bound, empty, next, branch, no_more}
use Rattle.dense_tree.specs.Proves.{proves}
use Rattle.dense_tree.proofs.Words.{bit, scope_id, game, of_variable, at, num, rule_two, sum_at_most, plainly, named, no_steps, on_to_goal, case_one, case_to, skip_one, alone}

-- exists; var 0..1: x; forall; var 1..1: y; constraint int_le(y,x); goal; constraint int_lt(x,1); solve; won by x = 0: the opponent is stuck
abbrev pub stuck_by_x : Game
stuck_by_x = game (scope Exists ∷ scope Forall ∷ []) (variable 0 bit ∷ variable 1 (Range (pos 1) (pos 1)) ∷ [])
    (rule_two 1 IntLe (at 1) (at 0) ∷ rule_two 2 IntLt (at 0) (num (pos 1)) ∷ [])

-- for what the opponent's restriction takes, n, c, n, l 3: were it x = 0, the goal would fail in what is left
open_values_taken : proves stuck_by_x False None (alone (plainly no_steps (next (plainly (close ∷ []) (next (no_play (scope_id 2))))))) ≡ false
open_values_taken = refl

-- v 1, n, e, s, .
won_by_zero : proves stuck_by_x True None (alone (plainly no_steps (branch (var 0) (case_one no_steps (next (plainly no_steps empty)) (skip_one no_more))))) ≡ true
won_by_zero = refl

-- for joint closing, e at once: in a free game alone. It would take x = 1, with which the goal fails, and then y
not_free_at_once : proves stuck_by_x False None (alone (plainly no_steps empty)) ≡ false
not_free_at_once = refl

-- exists maximize x; var 0..1: w; exists; var 0..1: x; constraint int_le(x,w); forall; var 0..1: y; constraint int_lt(y,0); goal; solve; 1 is
-- reached, since the opponent is always stuck
abbrev always_stuck : Game
always_stuck = game (optimising Max (of_variable 1) ∷ scope Exists ∷ scope Forall ∷ []) (variable 0 bit ∷ variable 1 bit ∷ variable 2 bit ∷ [])
    (rule_two 1 IntLe (at 1) (at 0) ∷ rule_two 2 IntLt (at 2) (num (pos 0)) ∷ [])

-- v 1, n, c, n, e, n, LAST, .
abbrev zero_then : Ending → Certificate
zero_then last = alone (plainly no_steps (branch (var 0)
    (case_one no_steps (next (plainly (close ∷ []) (next (plainly no_steps empty)))) (case_one no_steps (next (plainly no_steps last)) no_more))))

-- for the bound of a loose node, n, e: x is open where the opponent is stuck, so its least value is none
open_entry : proves always_stuck True (Some (pos 0)) (zero_then (next (plainly no_steps empty))) ≡ false
open_entry = refl

-- v 2, n, e, n, e, .
greatest_entry : proves always_stuck True (Some (pos 1))
    (zero_then (branch (var 1) (case_one no_steps (next (plainly no_steps empty)) (case_one no_steps (next (plainly no_steps empty)) no_more)))) ≡ true
greatest_entry = refl

-- exists minimize s; forall; var 0..1: u; aggregate s = sum(y); exists; var 0..1: x; constraint int_lin_le([1,1],[u,x],1); exists; var 0..3: y; goal; solve;
abbrev bounded_above : Game
bounded_above = record {
  scopes = optimising Min (TAgg (record { 0 = 0 })) ∷ scope Forall ∷ scope Exists ∷ scope Exists ∷ [];
  variables = variable 1 bit ∷ variable 2 bit ∷ variable 3 (Range (pos 0) (pos 3)) ∷ [];
  aggregates = aggregate 1 Sum (of_variable 2) ∷ [];
  constraints = sum_at_most 2 (pos 1 ∷ pos 1 ∷ []) (Var (var 0) ∷ Var (var 1) ∷ []) (pos 1) ∷ [];
}

-- after u = 0 and x = 0 a bound takes y = 0 and y = 1, and the node below is named; x = 1 then beats that bound with y = 0. After
-- u = 1 and x = 0 the node stands without the bound
abbrev least_y : Ending
least_y = branch (var 2) (case_one no_steps on_to_goal (case_to (pos 3) (bound (var 2) (pos 1) (pos 3) ∷ []) empty no_more))

abbrev both_left : Ending
both_left = branch (var 2) (case_one no_steps on_to_goal (case_one no_steps on_to_goal no_more))

abbrev after_zero : Ending
after_zero = next (plainly no_steps (branch (var 1)
    (case_one (bound (var 2) (pos 0) (pos 1) ∷ []) (next (named no_steps both_left))
    (case_one no_steps (next (plainly no_steps least_y)) no_more))))

abbrev after_one : Node → Ending
after_one second = next (plainly no_steps (branch (var 1) (case_one no_steps (next second) (case_one no_steps barred no_more))))

abbrev across_a_bound : Node → Certificate
across_a_bound second =
    alone (plainly no_steps (next (plainly no_steps (branch (var 0) (case_one no_steps after_zero (case_one no_steps (after_one second) no_more))))))

-- for a node told again, a 1: no bound of the block stands above its first place, or as much is left
bound_is_missed : proves bounded_above True (Some (pos 2)) (across_a_bound (again 0)) ≡ false
bound_is_missed = refl

bound_is_beaten : proves bounded_above True (Some (pos 0)) (across_a_bound (plainly no_steps least_y)) ≡ true
bound_is_beaten = refl
