-- One tuple of a scope, and its others skipped.
use Rattle.std.proofs.Common.{◌≡◌, refl}
use Rattle.std.specs.Prelude.{[], ◌∷◌, true, false, None, pos, ℤ}
use Rattle.qc_model.specs.declared.problem.Kind.TheVariants.{Exists, Forall}
use Rattle.qc_model.specs.declared.problem.Domain.TheVariants.{Range}
use Rattle.qc_model.specs.declared.problem.Pred.TheVariants.{IntLe, IntLt}
use Rattle.qc_model.specs.Content.{Game}
use Rattle.proof_tree.specs.declared.tree.Outcome.TheVariants.{True, False}
use Rattle.proof_tree.proofs.Build.{scope, variable}
use Rattle.dense_tree.specs.Tree.{Certificate, close, empty, chosen}
use Rattle.dense_tree.specs.Proves.{proves}
use Rattle.dense_tree.proofs.Words.{bit, game, at, num, rule_two, plainly, no_steps, on_to_goal, alone}

-- forall; var 0..2: y; constraint int_le(1,y); exists; var 0..1: z; constraint int_le(y,z); goal; solve; lost by y = 2
abbrev too_great : Game
too_great = game (scope Forall ∷ scope Exists ∷ []) (variable 0 (Range (pos 0) (pos 2)) ∷ variable 1 bit ∷ [])
    (rule_two 0 IntLe (num (pos 1)) (at 0) ∷ rule_two 1 IntLe (at 0) (at 1) ∷ [])

-- w 2, e
abbrev takes_at_once : ℤ → Certificate
takes_at_once v = alone (plainly no_steps (chosen (v ∷ []) (plainly no_steps empty)))

tuple_taken : proves too_great False None (takes_at_once (pos 2)) ≡ true
tuple_taken = refl

-- the same with constraint int_lt(z,y): lost by y = 0 if that were allowed
abbrev not_allowed : Game
not_allowed = game (scope Forall ∷ scope Exists ∷ []) (variable 0 (Range (pos 0) (pos 2)) ∷ variable 1 bit ∷ [])
    (rule_two 0 IntLe (num (pos 1)) (at 0) ∷ rule_two 1 IntLt (at 1) (at 0) ∷ [])

-- for w, w 0, e: the tuple is allowed
tuple_not_allowed : proves not_allowed False None (takes_at_once (pos 0)) ≡ false
tuple_not_allowed = refl

-- for w, w 1, n, g of a game that is lost by y = 2: the other tuples are skipped, so nothing is won
others_are_skipped : proves too_great True None (alone (plainly no_steps (chosen (pos 1 ∷ []) (plainly (close ∷ []) on_to_goal)))) ≡ false
others_are_skipped = refl

-- forall; var 0..1: y; constraint int_le(1,y); exists; var 0..1: z; constraint int_le(y,z); goal; solve; won
abbrev just_enough : Game
just_enough = game (scope Forall ∷ scope Exists ∷ []) (variable 0 bit ∷ variable 1 bit ∷ [])
    (rule_two 0 IntLe (num (pos 1)) (at 0) ∷ rule_two 1 IntLe (at 0) (at 1) ∷ [])

-- for w, w 2, e: the tuple is of values left. 2 isn't in the domain of y
no_such_tuple : proves just_enough False None (takes_at_once (pos 2)) ≡ false
no_such_tuple = refl
