-- Tuples that the opponent can always take.
use Rattle.std.proofs.Common.{◌≡◌, refl}
use Rattle.std.specs.Prelude.{[], ◌∷◌, true, false, None, pos, neg_ℤ}
use Rattle.qc_model.specs.declared.problem.Kind.TheVariants.{Exists, Forall}
use Rattle.qc_model.specs.declared.problem.Domain.TheVariants.{Range}
use Rattle.qc_model.specs.declared.problem.Pred.TheVariants.{IntLt, IntLe}
use Rattle.qc_model.specs.Content.{Game}
use Rattle.proof_tree.specs.declared.tree.Outcome.TheVariants.{True, False}
use Rattle.proof_tree.proofs.Build.{var, scope, variable}
use Rattle.dense_tree.specs.Tree.{Node, no_play, empty, barred, next, branch, no_more}
use Rattle.dense_tree.specs.Proves.{proves}
use Rattle.dense_tree.proofs.Words.{bit, scope_id, game, at, num, rule_two, plainly, no_steps, on_to_goal, case_one, skip_one, alone, given_of, with_given}
use Rattle.dense_tree.proofs.Closings.{below_n}
use Rattle.dense_tree.proofs.Counterexamples.{stuck_by_x}
use Rattle.dense_tree.proofs.Joint.{contrary, opponent_is_stuck, no_play_at_all}

-- as contrary, where the opponent's restriction leaves y = 0: constraint int_le(y,0)
abbrev opponent_has_a_tuple : Game
opponent_has_a_tuple = game (scope Exists ∷ scope Forall ∷ scope Exists ∷ []) (variable 0 bit ∷ variable 1 bit ∷ variable 2 bit ∷ [])
    (rule_two 1 IntLe (at 1) (num (pos 0)) ∷ rule_two 2 IntLt (at 2) (at 0) ∷ rule_two 3 IntLt (at 0) (at 2) ∷ [])

-- u 2 0, l 4
given_tuple : proves opponent_has_a_tuple False None (with_given (given_of 1 (pos 0) ∷ []) (no_play (scope_id 3))) ≡ true
given_tuple = refl

-- for l K in a restricted game: a tuple is given
no_tuple : proves opponent_has_a_tuple False None no_play_at_all ≡ false
no_tuple = refl

-- for a given tuple, u 2 1, l 3: it is allowed whatever was chosen before. 1 is with x = 1 alone
wrong_tuple : proves stuck_by_x False None (with_given (given_of 1 (pos 1) ∷ []) (no_play (scope_id 2))) ≡ false
wrong_tuple = refl

-- v 1, n, e, s, ., which proves by itself (won_by_zero)
abbrev zero_sticks : Node
zero_sticks = plainly no_steps (branch (var 0) (case_one no_steps (next (plainly no_steps empty)) (skip_one no_more)))

-- for a given tuple, u 2 1, v 1, ..: so too where nothing rests on it
wrong_tuple_beside : proves stuck_by_x True None (with_given (given_of 1 (pos 1) ∷ []) zero_sticks) ≡ false
wrong_tuple_beside = refl

-- for a given tuple, u 2 -1, l 4: its values are declared. The opponent is stuck, and -1 would be allowed
no_such_value : proves opponent_is_stuck False None (with_given (given_of 1 (neg_ℤ (pos 1)) ∷ []) (no_play (scope_id 3))) ≡ false
no_such_value = refl

-- for given tuples: one of a scope at most
given_twice : proves opponent_has_a_tuple False None (with_given (given_of 1 (pos 0) ∷ given_of 1 (pos 0) ∷ []) (no_play (scope_id 3))) ≡ false
given_twice = refl

-- for given tuples: of a scope with a restriction
given_needlessly : proves contrary False None (with_given (given_of 1 (pos 0) ∷ []) (no_play (scope_id 3))) ≡ false
given_needlessly = refl

-- for given tuples, u 1 0, v 1, n, g, s, .: of a scope of the opponent
given_to_the_player : proves (below_n (pos 1)) True None
    (with_given (given_of 0 (pos 0) ∷ []) (plainly no_steps (branch (var 0) (case_one no_steps on_to_goal (skip_one no_more))))) ≡ false
given_to_the_player = refl

-- forall; var 0..1: y; constraint int_le(y,0); forall; var 0..1: z; constraint int_le(z,0); exists; var 0..0: w; constraint int_lt(w,0); goal; solve;
abbrev two_moves : Game
two_moves = game (scope Forall ∷ scope Forall ∷ scope Exists ∷ []) (variable 0 bit ∷ variable 1 bit ∷ variable 2 (Range (pos 0) (pos 0)) ∷ [])
    (rule_two 0 IntLe (at 0) (num (pos 0)) ∷ rule_two 1 IntLe (at 1) (num (pos 0)) ∷ rule_two 2 IntLt (at 2) (num (pos 0)) ∷ [])

-- u 1 0, u 2 0, l 3
both_given : proves two_moves False None (with_given (given_of 0 (pos 0) ∷ given_of 1 (pos 0) ∷ []) (no_play (scope_id 2))) ≡ true
both_given = refl

-- for l K in a restricted game: each scope of the opponent from there on has its own
one_given : proves two_moves False None (with_given (given_of 0 (pos 0) ∷ []) (no_play (scope_id 2))) ≡ false
one_given = refl

-- forall; var 0..1: y; constraint int_le(y,0); exists; var 0..1: x; forall; var 0..1: w; goal; constraint int_lt(x,0); solve;
abbrev restricted_first : Game
restricted_first = game (scope Forall ∷ scope Exists ∷ scope Forall ∷ []) (variable 0 bit ∷ variable 1 bit ∷ variable 2 bit ∷ [])
    (rule_two 0 IntLe (at 0) (num (pos 0)) ∷ rule_two 3 IntLt (at 1) (num (pos 0)) ∷ [])

-- v 1, n, e, x, .
abbrev lost_after_zero : Node
lost_after_zero = plainly no_steps (branch (var 0) (case_one no_steps (next (plainly no_steps empty)) (case_one no_steps barred no_more)))

first_given : proves restricted_first False None (with_given (given_of 0 (pos 0) ∷ []) lost_after_zero) ≡ true
first_given = refl

-- for joint closing, without u 1 0: the whole game is free, and not what comes alone
free_from_there : proves restricted_first False None (alone lost_after_zero) ≡ false
free_from_there = refl

-- for given tuples: scope after scope
given_backwards : proves two_moves False None (with_given (given_of 1 (pos 0) ∷ given_of 0 (pos 0) ∷ []) (no_play (scope_id 2))) ≡ false
given_backwards = refl
