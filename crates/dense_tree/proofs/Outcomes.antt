-- What certificates state besides: games that are left open, and bounds.
use Rattle.std.proofs.Common.{◌≡◌, refl}
use Rattle.std.specs.Prelude.{[], ◌∷◌, true, false, Some, None, pos, neg_ℤ}
use Rattle.qc_model.specs.declared.problem.Kind.TheVariants.{Exists}
use Rattle.qc_model.specs.declared.problem.Sense.TheVariants.{Max}
use Rattle.qc_model.specs.declared.problem.Arg.TheVariants.{Var}
use Rattle.qc_model.specs.declared.problem.Domain.TheVariants.{Range}
use Rattle.qc_model.specs.declared.problem.Pred.TheVariants.{IntLe}
use Rattle.qc_model.specs.Content.{Game}
use Rattle.proof_tree.specs.declared.tree.Outcome.TheVariants.{True, False, Open}
use Rattle.proof_tree.proofs.Build.{var, scope, optimising, variable}
use Rattle.dense_tree.specs.Tree.{Certificate, Branches, piece, left_open, skip, close, bound, branch, no_more}
use Rattle.dense_tree.specs.Counts.{depth_of}
use Rattle.dense_tree.specs.Proves.{proves}
use Rattle.dense_tree.proofs.Words.{bit, game, of_variable, at, num, rule_two, sum_at_most, plainly, no_steps, on_to_goal, case_one, alone}

-- exists; var 0..1: x; goal; constraint int_le(1,x); solve;
abbrev pub one_wins : Game
one_wins = game (scope Exists ∷ []) (variable 0 bit ∷ []) (rule_two 1 IntLe (num (pos 1)) (at 0) ∷ [])

-- exists; var 0..1: x; goal; constraint int_le(2,x); solve;
abbrev one_loses : Game
one_loses = game (scope Exists ∷ []) (variable 0 bit ∷ []) (rule_two 1 IntLe (num (pos 2)) (at 0) ∷ [])

-- v 1, n, g, LAST, .
abbrev zero_then : Branches → Certificate
zero_then last = alone (plainly no_steps (branch (var 0) (case_one no_steps on_to_goal last)))

-- o: one turn, and a case is left open
left_open_one : proves one_wins (Open 1) None (zero_then (piece None left_open no_more)) ≡ true
left_open_one = refl

-- a branch, and the goal's node below it
two_deep : depth_of (zero_then (piece None left_open no_more)).root ≡ 2
two_deep = refl

-- for Open: the turns are counted
other_turns : proves one_wins (Open 2) None (zero_then (piece None left_open no_more)) ≡ false
other_turns = refl

-- for Open: some case is left open; s leaves none
nothing_open : proves one_wins (Open 1) None (zero_then (piece None skip no_more)) ≡ false
nothing_open = refl

-- for Open: the verdict is unknown. v 1, o, n, g, .: 1 wins, whatever was left open
settled_though_open : proves one_wins (Open 1) None (alone (plainly no_steps (branch (var 0) (piece None left_open (case_one no_steps on_to_goal no_more))))) ≡ false
settled_though_open = refl

-- for o: what is left open may win
not_lost : proves one_wins False None (zero_then (piece None left_open no_more)) ≡ false
not_lost = refl

-- for s: so may what is skipped
skipped_not_lost : proves one_wins False None (zero_then (piece None skip no_more)) ≡ false
skipped_not_lost = refl

-- for the stated optimum: it stands beside True alone
open_with_optimum : proves one_wins (Open 1) (Some (pos 0)) (zero_then (piece None left_open no_more)) ≡ false
open_with_optimum = refl

-- for the stated optimum: so too where the game is lost
lost_with_optimum : proves one_loses False (Some (pos 0)) (zero_then (case_one no_steps on_to_goal no_more)) ≡ false
lost_with_optimum = refl

lost_without : proves one_loses False None (zero_then (case_one no_steps on_to_goal no_more)) ≡ true
lost_without = refl

-- n, g
settled : proves one_wins True None (zero_then (case_one no_steps on_to_goal no_more)) ≡ true
settled = refl

-- exists maximize x; var 0..2: x; goal; solve;
abbrev greatest : Game
greatest = game (optimising Max (of_variable 0) ∷ []) (variable 0 (Range (pos 0) (pos 2)) ∷ []) []

-- b 1 0 1, n, g: two values given up, since 2 beats both
bounded_away : proves greatest True (Some (pos 2)) (alone (plainly (bound (var 0) (pos 0) (pos 1) ∷ []) on_to_goal)) ≡ true
bounded_away = refl

-- for the mark of a bound, b 1 1 2, n, g: what is given up might be better
better_given_up : proves greatest True (Some (pos 0)) (alone (plainly (bound (var 0) (pos 1) (pos 2) ∷ []) on_to_goal)) ≡ false
better_given_up = refl

-- for the stated optimum: it is the one that was found
other_optimum : proves greatest True (Some (pos 1)) (alone (plainly (bound (var 0) (pos 0) (pos 1) ∷ []) on_to_goal)) ≡ false
other_optimum = refl

-- for the stated optimum: there is one where there is a condition
no_optimum : proves greatest True None (alone (plainly (bound (var 0) (pos 0) (pos 1) ∷ []) on_to_goal)) ≡ false
no_optimum = refl

-- for what a bound gives up, b 1 5 7: some of it is left
nothing_given_up : proves greatest True (Some (pos 2)) (alone (plainly (bound (var 0) (pos 5) (pos 7) ∷ bound (var 0) (pos 0) (pos 1) ∷ []) on_to_goal)) ≡ false
nothing_given_up = refl

-- exists maximize x; var -1..0: y; var 0..3: x; constraint int_lin_le([1,-3],[x,y],3); goal; solve; 3 is reached with y = 0
abbrev by_another : Game
by_another = game (optimising Max (of_variable 1) ∷ []) (variable 0 (Range (neg_ℤ (pos 1)) (pos 0)) ∷ variable 0 (Range (pos 0) (pos 3)) ∷ [])
    (sum_at_most 0 (pos 1 ∷ neg_ℤ (pos 3) ∷ []) (Var (var 1) ∷ Var (var 0) ∷ []) (pos 3) ∷ [])

-- for the variable of a bound, b 1 0 0, c, n, g: what is demanded is x, so y = 0 is no better than nothing
other_variable : proves by_another True (Some (pos 0)) (alone (plainly (bound (var 0) (pos 0) (pos 0) ∷ close ∷ []) on_to_goal)) ≡ false
other_variable = refl

-- b 2 0 2, c, n, g
its_variable : proves by_another True (Some (pos 3)) (alone (plainly (bound (var 1) (pos 0) (pos 2) ∷ close ∷ []) on_to_goal)) ≡ true
its_variable = refl
