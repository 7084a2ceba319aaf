-- Small dense trees, and what they prove.
use Rattle.std.proofs.Common.{◌≡◌, refl}
use Rattle.std.specs.Prelude.{ℕ, [], ◌∷◌, List, true, false, Option, Some, None, pos}
use Rattle.qc_model.specs.declared.problem.Kind.TheVariants.{Exists, Forall}
use Rattle.qc_model.specs.declared.problem.ScopeId.{ScopeId}
use Rattle.qc_model.specs.declared.problem.Sense.TheVariants.{Min}
use Rattle.qc_model.specs.declared.problem.Target.TheVariants.{Var as Wished}
use Rattle.qc_model.specs.declared.problem.Domain.TheVariants.{Range}
use Rattle.qc_model.specs.declared.problem.Arg.TheVariants.{Var, Num}
use Rattle.qc_model.specs.declared.problem.Argument.TheVariants.{One}
use Rattle.qc_model.specs.declared.problem.Pred.TheVariants.{IntLe, IntLt}
use Rattle.qc_model.specs.Content.{Game}
use Rattle.proof_tree.specs.declared.tree.Outcome.TheVariants.{True, False}
use Rattle.proof_tree.proofs.Build.{var, scope, optimising, variable, rule}
use Rattle.dense_closing.specs.Tree.{Line, close, bound, DenseTree, dense, dense_stuck, dense_goal, dense_cases, DenseEnding, dense_empty, dense_next, dense_branch, dense_no_more, dense_piece, dense_skip, dense_go}
use Rattle.dense_closing.specs.Expanded.{dense_proves}
use Rattle.dense_closing.proofs.ClosedBoxes.{never, opponent}

-- h K, where K counts scopes from 0
abbrev ahead : ℕ → Option ScopeId
ahead k = Some (record { 0 = k })

-- lines, and an end
abbrev own : List Line → DenseEnding → DenseTree
own ls end = dense None (dense_cases ls end)

-- n, g
abbrev on_to_goal : DenseEnding
on_to_goal = dense_next (dense None dense_goal)

-- exists; var 0..1: x; constraint int_lt(1,x); goal; solve;
abbrev no_move : Game
no_move = record {
  scopes = scope Exists ∷ [];
  variables = variable 0 (Range (pos 0) (pos 1)) ∷ [];
  aggregates = [];
  constraints = rule 0 IntLt (One (Num (pos 1)) ∷ One (Var (var 0)) ∷ []) ∷ [];
}

-- e: nothing is left; h 1, t says the same
lost_by_closing : dense_proves no_move False None (own [] dense_empty) ≡ true
lost_by_closing = refl

lost_by_horizon : dense_proves no_move False None (dense (ahead 0) dense_stuck) ≡ true
lost_by_horizon = refl

-- after c no end but e may stand there
emptied_first : dense_proves no_move False None (own (close ∷ []) dense_empty) ≡ true
emptied_first = refl

not_on_from_emptied : dense_proves no_move True None (own (close ∷ []) on_to_goal) ≡ false
not_on_from_emptied = refl

-- exists; var 0..2: x; var 0..2: y; constraint int_lt(x,y); constraint int_lt(0,x); goal; constraint int_le(y,2); solve;
abbrev chain : Game
chain = record {
  scopes = scope Exists ∷ [];
  variables = variable 0 (Range (pos 0) (pos 2)) ∷ variable 0 (Range (pos 0) (pos 2)) ∷ [];
  aggregates = [];
  constraints =
      rule 0 IntLt (One (Var (var 0)) ∷ One (Var (var 1)) ∷ [])
      ∷ rule 0 IntLt (One (Num (pos 0)) ∷ One (Var (var 0)) ∷ [])
      ∷ rule 1 IntLe (One (Var (var 1)) ∷ One (Num (pos 2)) ∷ [])
      ∷ [];
}

-- c, n, g; without c x and y have several values; a second c changes nothing
won_by_closing : dense_proves chain True None (own (close ∷ []) on_to_goal) ≡ true
won_by_closing = refl

closing_is_owed : dense_proves chain True None (own [] on_to_goal) ≡ false
closing_is_owed = refl

closed_twice : dense_proves chain True None (own (close ∷ close ∷ []) on_to_goal) ≡ true
closed_twice = refl

-- where a box within is closed, neither e nor h may stand
not_lost : dense_proves chain False None (own [] dense_empty) ≡ false
not_lost = refl

not_lost_once_closed : dense_proves chain False None (own (close ∷ []) dense_empty) ≡ false
not_lost_once_closed = refl

not_stuck : dense_proves chain False None (dense (ahead 0) dense_stuck) ≡ false
not_stuck = refl

-- v 1, 0, c, e, 1, c, n, g, 2: c closes each case anew; in the last case e alone
won_by_cases : dense_proves chain True None
    (own []
    (dense_branch (var 0)
    (dense_piece None (dense_go [] dense_empty) (dense_piece None (dense_go (close ∷ []) on_to_goal) (dense_piece None (dense_go [] dense_empty) dense_no_more)))))
    ≡ true
won_by_cases = refl

-- exists minimize x; var 0..2: x; constraint int_lt(0,x); goal; solve;
abbrev least : Game
least = record {
  scopes = optimising Min (Wished (var 0)) ∷ [];
  variables = variable 0 (Range (pos 0) (pos 2)) ∷ [];
  aggregates = [];
  constraints = rule 0 IntLt (One (Num (pos 0)) ∷ One (Var (var 0)) ∷ []) ∷ [];
}

-- c, b 1 2 2, n, g: the bound's mark isn't better than what was reached
bounded : dense_proves least True (Some (pos 1)) (own (close ∷ bound (var 0) (pos 2) (pos 2) ∷ []) on_to_goal) ≡ true
bounded = refl

-- b 1 1 1, c, n, g: here it is, so 2 isn't the optimum
bounded_away : dense_proves least True (Some (pos 2)) (own (bound (var 0) (pos 1) (pos 1) ∷ close ∷ []) on_to_goal) ≡ false
bounded_away = refl

-- a bound takes no value that isn't left
bounded_again : dense_proves least True (Some (pos 1)) (own (close ∷ bound (var 0) (pos 0) (pos 0) ∷ bound (var 0) (pos 2) (pos 2) ∷ []) on_to_goal) ≡ false
bounded_again = refl

-- forall; var 0..1: y; constraint int_lt(1,y); goal; constraint int_lt(1,0); solve;
abbrev stuck_opponent : Game
stuck_opponent = record {
  scopes = scope Forall ∷ [];
  variables = variable 0 (Range (pos 0) (pos 1)) ∷ [];
  aggregates = [];
  constraints = rule 0 IntLt (One (Num (pos 1)) ∷ One (Var (var 0)) ∷ []) ∷ rule 1 IntLt (One (Num (pos 1)) ∷ One (Num (pos 0)) ∷ []) ∷ [];
}

-- e: an opponent without a move has lost
won_by_closing_his : dense_proves stuck_opponent True None (own [] dense_empty) ≡ true
won_by_closing_his = refl

-- of `opponent` the goal is out of reach for 2, but its constraint takes nothing at his scope: c leaves 1 and 2, so a branch is owed
won_not_by_goal : dense_proves opponent True None (own (close ∷ []) on_to_goal) ≡ false
won_not_by_goal = refl

lost_by_a_case : dense_proves opponent False None (own (close ∷ []) (dense_branch (var 0) (dense_piece None dense_skip (dense_piece None (dense_go [] on_to_goal) dense_no_more)))) ≡ true
lost_by_a_case = refl

-- exists; var 0..1: x; exists; var 0..0: y; constraint int_lt(y,x); goal; solve;
abbrev block : Game
block = record {
  scopes = scope Exists ∷ scope Exists ∷ [];
  variables = variable 0 (Range (pos 0) (pos 1)) ∷ variable 1 (Range (pos 0) (pos 0)) ∷ [];
  aggregates = [];
  constraints = rule 1 IntLt (One (Var (var 1)) ∷ One (Var (var 0)) ∷ []) ∷ [];
}

-- c, n, n, g: the second scope's constraint is in force at the first
block_closes : dense_proves block True None (own (close ∷ []) (dense_next (own [] on_to_goal))) ≡ true
block_closes = refl

-- exists; var 0..0: x; forall; var 0..1: y; constraint int_lt(1,y); goal; solve;
abbrev stuck_later : Game
stuck_later = record {
  scopes = scope Exists ∷ scope Forall ∷ [];
  variables = variable 0 (Range (pos 0) (pos 0)) ∷ variable 1 (Range (pos 0) (pos 1)) ∷ [];
  aggregates = [];
  constraints = rule 1 IntLt (One (Num (pos 1)) ∷ One (Var (var 1)) ∷ []) ∷ [];
}

-- h 2, n, t: from the first scope on nobody passes the second
stuck_ahead : dense_proves stuck_later True None (dense (ahead 1) (dense_cases [] (dense_next (dense None dense_stuck)))) ≡ true
stuck_ahead = refl

-- h 1: the first scope itself is passed
not_so_near : dense_proves stuck_later False None (dense (ahead 0) dense_stuck) ≡ false
not_so_near = refl

-- of `never` closing takes nothing, so a constraint without variables is met where a tuple is barred, or at the goal
never_by_closing : dense_proves never False None (own [] dense_empty) ≡ false
never_by_closing = refl
