-- Greatest closed boxes of small games, and what removals of other kinds would break.
use Rattle.std.proofs.Common.{◌≡◌, refl}
use Rattle.std.specs.Prelude.{◌==◌, [], ◌∷◌, List, true, false, Some, None, pos, negsuc}
use Rattle.qc_model.specs.declared.problem.Kind.TheVariants.{Exists, Forall}
use Rattle.qc_model.specs.declared.problem.Domain.TheVariants.{Range, Listed}
use Rattle.qc_model.specs.declared.problem.Arg.TheVariants.{Var, Num}
use Rattle.qc_model.specs.declared.problem.Argument.TheVariants.{One, Many, Numbers}
use Rattle.qc_model.specs.declared.problem.Pred.TheVariants.{IntNe, IntLt, IntLinLe, TableInt}
use Rattle.qc_model.specs.Content.{Game}
use Rattle.qc_model.specs.Closed.{is_closed}
use Rattle.qc_model.specs.Block.{constraints_within, force_stop}
use Rattle.qc_model.specs.Domains.{declared_box, has_empty}
use Rattle.proof_tree.specs.declared.tree.Step.{Step}
use Rattle.proof_tree.specs.Steps.{are_legal, after_steps}
use Rattle.proof_tree.proofs.Build.{var, scope, variable, rule, prune}
use Rattle.dense_closing.specs.Closing.{IsGreatestClosed}
use Rattle.dense_closing.specs.Takes.{Takes, takes_all, is_closed_by}
use Rattle.dense_closing.specs.Ends.{are_end_steps}
use Rattle.dense_closing.specs.ClosingSteps.{closing_steps, greatest_closed}

-- exists; var 0..2: x; var 0..2: y; constraint int_lt(x,y); constraint int_lt(0,x); goal; constraint int_lt(y,2); solve;
abbrev pub chain : Game
chain = record {
  scopes = scope Exists ∷ [];
  variables = variable 0 (Range (pos 0) (pos 2)) ∷ variable 0 (Range (pos 0) (pos 2)) ∷ [];
  aggregates = [];
  constraints =
      rule 0 IntLt (One (Var (var 0)) ∷ One (Var (var 1)) ∷ [])
      ∷ rule 0 IntLt (One (Num (pos 0)) ∷ One (Var (var 0)) ∷ [])
      ∷ rule 1 IntLt (One (Var (var 1)) ∷ One (Num (pos 2)) ∷ [])
      ∷ [];
}

-- for the scope's own constraints x is 1 and y is 2
chain_closes : greatest_closed takes_all chain 0 1 (declared_box chain) ≡ Some ((pos 1 ∷ []) ∷ (pos 2 ∷ []) ∷ [])
chain_closes = refl

-- an end goes as soon as it is refuted: 2 of x, 0 of y, 0 of x, 1 of y
chain_steps : closing_steps takes_all chain 0 1 (declared_box chain) ≡ prune 0 (pos 2) (pos 2) 0 ∷ prune 1 (pos 0) (pos 0) 0 ∷ prune 0 (pos 0) (pos 0) 1 ∷ prune 1 (pos 1) (pos 1) 0 ∷ []
chain_steps = refl

-- with the goal's there is none, nor with no constraints is anything removed
chain_lost : greatest_closed takes_all chain 0 2 (declared_box chain) ≡ None
chain_lost = refl

chain_free : greatest_closed takes_all chain 0 0 (declared_box chain) ≡ Some (declared_box chain)
chain_free = refl

-- where constraints may take values of y alone, x keeps all of its own
abbrev of_y : Takes
of_y c x = x == 1

only_y_closes : greatest_closed of_y chain 0 1 (declared_box chain) ≡ Some ((pos 0 ∷ pos 1 ∷ pos 2 ∷ []) ∷ (pos 1 ∷ pos 2 ∷ []) ∷ [])
only_y_closes = refl

-- and where x is 0, which 0 < x refutes and may not take, no domain gets empty, but no box within is closed
only_y_goes : closing_steps of_y chain 0 1 ((pos 0 ∷ []) ∷ (pos 0 ∷ pos 1 ∷ pos 2 ∷ []) ∷ []) ≡ prune 1 (pos 0) (pos 0) 0 ∷ []
only_y_goes = refl

none_is_closed_by_y : greatest_closed of_y chain 0 1 ((pos 0 ∷ []) ∷ (pos 0 ∷ pos 1 ∷ pos 2 ∷ []) ∷ []) ≡ None
none_is_closed_by_y = refl

not_closed_by_y : is_closed_by of_y (constraints_within chain 0 1) ((pos 0 ∷ []) ∷ (pos 1 ∷ pos 2 ∷ []) ∷ []) ≡ false
not_closed_by_y = refl

-- by the first constraint alone it is
closed_by_y : is_closed_by of_y (rule 0 IntLt (One (Var (var 0)) ∷ One (Var (var 1)) ∷ []) ∷ []) ((pos 0 ∷ []) ∷ (pos 1 ∷ pos 2 ∷ []) ∷ []) ≡ true
closed_by_y = refl

-- a box with an empty domain has none, and nothing goes
emptied_before : closing_steps takes_all chain 0 1 ((pos 0 ∷ pos 1 ∷ []) ∷ [] ∷ []) ≡ []
emptied_before = refl

none_in_emptied : greatest_closed takes_all chain 0 1 ((pos 0 ∷ pos 1 ∷ []) ∷ [] ∷ []) ≡ None
none_in_emptied = refl

-- forall; var 0..2: y; constraint int_lt(0,y); goal; constraint int_lt(y,2); solve;
abbrev pub opponent : Game
opponent = record {
  scopes = scope Forall ∷ [];
  variables = variable 0 (Range (pos 0) (pos 2)) ∷ [];
  aggregates = [];
  constraints = rule 0 IntLt (One (Num (pos 0)) ∷ One (Var (var 0)) ∷ []) ∷ rule 1 IntLt (One (Var (var 0)) ∷ One (Num (pos 2)) ∷ []) ∷ [];
}

-- at a scope of the opponent his own constraints are in force, and the goal's aren't
opponent_closes : greatest_closed takes_all opponent 0 (force_stop opponent.scopes 0) (declared_box opponent) ≡ Some ((pos 1 ∷ pos 2 ∷ []) ∷ [])
opponent_closes = refl

-- exists; var {0,5,9}: x; constraint int_lt(0,x); ..: an end is a value that is left, not a number next to one
abbrev sparse : Game
sparse = record {
  scopes = scope Exists ∷ [];
  variables = variable 0 (Listed (pos 0 ∷ pos 5 ∷ pos 9 ∷ [])) ∷ [];
  aggregates = [];
  constraints = rule 0 IntLt (One (Num (pos 0)) ∷ One (Var (var 0)) ∷ []) ∷ [];
}

sparse_closes : greatest_closed takes_all sparse 0 1 (declared_box sparse) ≡ Some ((pos 5 ∷ pos 9 ∷ []) ∷ [])
sparse_closes = refl

-- exists; var 0..2: x; var 1..1: y; constraint int_ne(x,y); ..
abbrev two_differ : Game
two_differ = record {
  scopes = scope Exists ∷ [];
  variables = variable 0 (Range (pos 0) (pos 2)) ∷ variable 0 (Range (pos 1) (pos 1)) ∷ [];
  aggregates = [];
  constraints = rule 0 IntNe (One (Var (var 0)) ∷ One (Var (var 1)) ∷ []) ∷ [];
}

-- p 1 1 1 1: the inner value 1 of x
abbrev hole : List Step
hole = prune 0 (pos 1) (pos 1) 0 ∷ []

hole_is_legal : are_legal two_differ 0 1 None hole (declared_box two_differ) ≡ true
hole_is_legal = refl

hole_is_no_end : are_end_steps takes_all two_differ 0 1 hole (declared_box two_differ) ≡ false
hole_is_no_end = refl

closed_before : greatest_closed takes_all two_differ 0 1 (declared_box two_differ) ≡ Some (declared_box two_differ)
closed_before = refl

closed_after : is_closed (constraints_within two_differ 0 1) (after_steps hole (declared_box two_differ)) ≡ true
closed_after = refl

-- so legal steps may come to a closed box that isn't the greatest
not_the_greatest : ¬ IsGreatestClosed takes_all (constraints_within two_differ 0 1) (declared_box two_differ) (after_steps hole (declared_box two_differ))
not_the_greatest h = differ (h.greatest (declared_box two_differ) refl refl)
  where
    differ : false ≡ true → ⊥
    differ e = cc

-- p 1 1 2 1: an end and more, where both go
hole_and_end : are_end_steps takes_all two_differ 0 1 (prune 0 (pos 1) (pos 2) 0 ∷ []) (declared_box two_differ) ≡ false
hole_and_end = refl

-- exists; var 0..2: x; var 1..1: y; var 5..6: z; var 7..8: t;
-- constraint int_ne(x,y); constraint table_int([x,z],[0,5,1,6,2,5]); constraint table_int([z,t],[5,7,6,8]);
-- constraint int_lin_le([-1,-1],[z,t],-13); ..
abbrev ladder : Game
ladder = record {
  scopes = scope Exists ∷ [];
  variables =
      variable 0 (Range (pos 0) (pos 2)) ∷ variable 0 (Range (pos 1) (pos 1)) ∷ variable 0 (Range (pos 5) (pos 6)) ∷ variable 0 (Range (pos 7) (pos 8)) ∷ [];
  aggregates = [];
  constraints =
      rule 0 IntNe (One (Var (var 0)) ∷ One (Var (var 1)) ∷ [])
      ∷ rule 0 TableInt (Many (Var (var 0) ∷ Var (var 2) ∷ []) ∷ Numbers (pos 0 ∷ pos 5 ∷ pos 1 ∷ pos 6 ∷ pos 2 ∷ pos 5 ∷ []) ∷ [])
      ∷ rule 0 TableInt (Many (Var (var 2) ∷ Var (var 3) ∷ []) ∷ Numbers (pos 5 ∷ pos 7 ∷ pos 6 ∷ pos 8 ∷ []) ∷ [])
      ∷ rule 0 IntLinLe (Numbers (negsuc 0 ∷ negsuc 0 ∷ []) ∷ Many (Var (var 2) ∷ Var (var 3) ∷ []) ∷ One (Num (negsuc 12)) ∷ [])
      ∷ [];
}

-- with the inner value 1 of x goes 6 of z, with that 8 of t, and then 5 of z
abbrev down : List Step
down = prune 0 (pos 1) (pos 1) 0 ∷ prune 2 (pos 6) (pos 6) 1 ∷ prune 3 (pos 8) (pos 8) 2 ∷ prune 2 (pos 5) (pos 5) 3 ∷ []

down_is_legal : are_legal ladder 0 1 None down (declared_box ladder) ≡ true
down_is_legal = refl

down_empties : has_empty (after_steps down (declared_box ladder)) ≡ true
down_empties = refl

-- though the box is closed: legal steps that empty a domain don't show that there is no closed box
ladder_is_closed : greatest_closed takes_all ladder 0 1 (declared_box ladder) ≡ Some (declared_box ladder)
ladder_is_closed = refl

-- exists; var 0..1: x; constraint int_lt(1,0); ..
abbrev pub never : Game
never = record {
  scopes = scope Exists ∷ [];
  variables = variable 0 (Range (pos 0) (pos 1)) ∷ [];
  aggregates = [];
  constraints = rule 0 IntLt (One (Num (pos 1)) ∷ One (Num (pos 0)) ∷ []) ∷ [];
}

-- a constraint without variables refutes every box, so all values of x may go, at its ends and legally
abbrev all_go : List Step
all_go = prune 0 (pos 0) (pos 1) 0 ∷ []

all_go_is_legal : are_legal never 0 1 None all_go (declared_box never) ≡ true
all_go_is_legal = refl

all_go_takes_no_end : are_end_steps takes_all never 0 1 all_go (declared_box never) ≡ false
all_go_takes_no_end = refl

-- and yet it has no variable whose ends it could refute: the box is closed
never_is_closed : greatest_closed takes_all never 0 1 (declared_box never) ≡ Some (declared_box never)
never_is_closed = refl
