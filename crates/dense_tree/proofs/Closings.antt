-- A box is closed by its ends alone, so that the order of removals doesn't matter.
use Rattle.std.proofs.Common.{◌≡◌, refl}
use Rattle.std.specs.Prelude.{[], ◌∷◌, true, false, Some, None, pos, ℤ}
use Rattle.qc_model.specs.declared.problem.Kind.TheVariants.{Exists}
use Rattle.qc_model.specs.declared.problem.Sense.TheVariants.{Min}
use Rattle.qc_model.specs.declared.problem.Domain.TheVariants.{Range}
use Rattle.qc_model.specs.declared.problem.Pred.TheVariants.{IntNe, IntLt, IntLe}
use Rattle.qc_model.specs.Content.{Game}
use Rattle.proof_tree.specs.declared.tree.Outcome.TheVariants.{True, False}
use Rattle.proof_tree.proofs.Build.{var, scope, optimising, variable}
use Rattle.dense_tree.specs.Tree.{Certificate, node, stuck, close, empty, barred, branch, no_more}
use Rattle.dense_tree.specs.Proves.{proves}
use Rattle.dense_tree.proofs.Words.{scope_id, game, of_variable, at, num, rule_two, plainly, no_steps, on_to_goal, case_one, alone}

-- exists; var 0..3: x; var 0..3: y; constraint int_lt(x,y); goal; constraint int_le(2,x); solve;
abbrev chain : Game
chain = game (scope Exists ∷ []) (variable 0 (Range (pos 0) (pos 3)) ∷ variable 0 (Range (pos 0) (pos 3)) ∷ [])
    (rule_two 0 IntLt (at 0) (at 1) ∷ rule_two 1 IntLe (num (pos 2)) (at 0) ∷ [])

-- c, n, g
abbrev closed_at_once : Certificate
closed_at_once = alone (plainly (close ∷ []) on_to_goal)

closing_leaves_one : proves chain True None closed_at_once ≡ true
closing_leaves_one = refl

-- for e: no box within is closed. Here something is left
something_left : proves chain False None (alone (plainly no_steps empty)) ≡ false
something_left = refl

-- exists minimize x; var 0..2: x; constraint int_ne(x,1); goal; solve;
abbrev inner_hole : Game
inner_hole = game (optimising Min (of_variable 0) ∷ []) (variable 0 (Range (pos 0) (pos 2)) ∷ []) (rule_two 0 IntNe (at 0) (num (pos 1)) ∷ [])

-- c, v 1, n, g, x, n, g, .
abbrev with_hole : Certificate
with_hole = alone (plainly (close ∷ []) (branch (var 0) (case_one no_steps on_to_goal (case_one no_steps barred (case_one no_steps on_to_goal no_more)))))

-- the same with the case of 1 left out, as if c had taken it
abbrev without_hole : Certificate
without_hole = alone (plainly (close ∷ []) (branch (var 0) (case_one no_steps on_to_goal (case_one no_steps on_to_goal no_more))))

inner_value_stays : proves inner_hole True (Some (pos 0)) with_hole ≡ true
inner_value_stays = refl

-- for c: it takes ends alone
inner_value_is_owed : proves inner_hole True (Some (pos 0)) without_hole ≡ false
inner_value_is_owed = refl

-- exists; var 0..1: x; constraint int_lt(x,N); goal; solve;
abbrev pub below_n : ℤ → Game
below_n n = game (scope Exists ∷ []) (variable 0 (Range (pos 0) (pos 1)) ∷ []) (rule_two 0 IntLt (at 0) (num n) ∷ [])

-- h 1, t: nobody passes the first scope
abbrev nobody_passes : Certificate
nobody_passes = alone (node false (Some (scope_id 0)) stuck)

horizon_at_once : proves (below_n (pos 0)) False None nobody_passes ≡ true
horizon_at_once = refl

-- for h K: nobody passes the scopes up to K. x = 0 does
somebody_passes : proves (below_n (pos 1)) False None nobody_passes ≡ false
somebody_passes = refl

-- e, in place of it
none_is_closed : proves (below_n (pos 0)) False None (alone (plainly no_steps empty)) ≡ true
none_is_closed = refl

-- for c: there is a closed box within
none_to_close : proves (below_n (pos 0)) False None (alone (plainly (close ∷ []) empty)) ≡ false
none_to_close = refl
