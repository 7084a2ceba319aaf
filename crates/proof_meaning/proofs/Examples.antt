-- Valid games, and what their certificates show: a bound, and an aggregate over no branch.
use Rattle.std.proofs.Common.{◌≡◌, [], ◌∷◌, refl, arith, Some, None}
use Rattle.std.specs.Prelude.{pos, codes}
use Rattle.qc_model.specs.declared.problem.Kind.TheVariants.{Exists, Forall}
use Rattle.qc_model.specs.declared.problem.Sense.TheVariants.{Min, Max}
use Rattle.qc_model.specs.declared.problem.Arg.TheVariants.{Var, Num}
use Rattle.qc_model.specs.declared.problem.Argument.TheVariants.{One}
use Rattle.qc_model.specs.declared.problem.Pred.TheVariants.{IntLt}
use Rattle.qc_model.specs.declared.problem.Fold.TheVariants.{Greatest}
use Rattle.qc_model.specs.declared.problem.Target.TheVariants.{Var as TVar, Aggregate as TAgg}
use Rattle.qc_model.specs.declared.problem.Domain.TheVariants.{Range}
use Rattle.qc_model.specs.Content.{Game}
use Rattle.qc_model.specs.Game.{IsWon}
use Rattle.qc_model.specs.Plan.{Plan}
use Rattle.qc_model.specs.Value.{value}
use Rattle.qc_model.specs.Optimal.{Optimal}
use Rattle.qc_model.specs.Valid.{IsValid}
use Rattle.proof_tree.specs.declared.tree.Outcome.TheVariants.{True, False}
use Rattle.proof_tree.specs.Tree.{Tree, tree, goal, cases, empty, next, branch, no_more, piece, go}
use Rattle.proof_tree.proofs.Build.{var, scope, optimising, rule, prune, go_one}
use Rattle.proof_tree.proofs.BoundMarks.{bound_above}
use Rattle.proof_meaning.proofs.Outcomes.{outcome_means}

-- exists minimize x; var 0..2: x; goal; solve;
abbrev least_x : Game
least_x = record {
  scopes = optimising Min (TVar (var 0)) ∷ [];
  variables = record { name = codes "x"; scope = record { 0 = 0 }; domain = Range (pos 0) (pos 2) } ∷ [];
  aggregates = [];
  constraints = [];
}

-- exists maximize g; var 0..1: x; forall; var 0..2: t; aggregate g = greatest(t) else 7; constraint int_lt(t,x); goal; solve;
abbrev greatest_of_none : Game
greatest_of_none = record {
  scopes = optimising Max (TAgg (record { 0 = 0 })) ∷ scope Forall ∷ [];
  variables = record { name = codes "x"; scope = record { 0 = 0 }; domain = Range (pos 0) (pos 1) }
      ∷ record { name = codes "t"; scope = record { 0 = 1 }; domain = Range (pos 0) (pos 2) } ∷ [];
  aggregates = record { name = codes "g"; scope = record { 0 = 1 }; fold = Greatest (pos 7); target = TVar (var 1) } ∷ [];
  constraints = rule 1 IntLt (One (Var (var 1)) ∷ One (Var (var 0)) ∷ []) ∷ [];
}

-- v 1, n, p 2 0 2 1, e, n, p 2 1 2 1, n, g, .
abbrev no_branch : Tree
no_branch = tree None (cases [] (branch (var 0) (go_one [] (next (tree None (cases (prune 1 (pos 0) (pos 2) 0 ∷ []) empty))) (go_one [] (next (tree None (cases (prune 1 (pos 1) (pos 2) 0 ∷ []) (next (tree None goal))))) no_more))))

-- exists; var 0..9: x; constraint int_lt(9,x); goal; solve;
abbrev above_nine : Game
above_nine = record {
  scopes = scope Exists ∷ [];
  variables = record { name = codes "x"; scope = record { 0 = 0 }; domain = Range (pos 0) (pos 9) } ∷ [];
  aggregates = [];
  constraints = rule 0 IntLt (One (Num (pos 9)) ∷ One (Var (var 0)) ∷ []) ∷ [];
}

-- v 1, r 4, p 1 0 4 1, e, r 9, p 1 5 9 1, e, .
abbrev halves : Tree
halves = tree None (cases [] (branch (var 0) (piece (Some (pos 4)) (go (prune 0 (pos 0) (pos 4) 0 ∷ []) empty) (piece (Some (pos 9)) (go (prune 0 (pos 5) (pos 9) 0 ∷ []) empty) no_more))))

nine_is_valid : IsValid above_nine
nine_is_valid = record {
  few_scopes = omega arith;
  few_variables = omega arith;
  few_aggregates = omega arith;
  few_constraints = omega arith;
  variable_order = refl;
  constraint_order = refl;
  aggregate_order = refl;
  names = refl;
  distinct_names = refl;
  domains = refl;
  widths = omega arith;
  scopes = refl;
  aggregates = refl;
  constraints = refl;
  sees = (tt, tt);
  bottlenecks = refl;
}

least_is_valid : IsValid least_x
least_is_valid = record {
  few_scopes = omega arith;
  few_variables = omega arith;
  few_aggregates = omega arith;
  few_constraints = omega arith;
  variable_order = refl;
  constraint_order = refl;
  aggregate_order = refl;
  names = refl;
  distinct_names = refl;
  domains = refl;
  widths = omega arith;
  scopes = refl;
  aggregates = refl;
  constraints = refl;
  sees = (omega arith, tt);
  bottlenecks = refl;
}

greatest_is_valid : IsValid greatest_of_none
greatest_is_valid = record {
  few_scopes = omega arith;
  few_variables = omega arith;
  few_aggregates = omega arith;
  few_constraints = omega arith;
  variable_order = refl;
  constraint_order = refl;
  aggregate_order = refl;
  names = refl;
  distinct_names = refl;
  domains = refl;
  widths = omega arith;
  scopes = refl;
  aggregates = refl;
  constraints = refl;
  sees = (refl, ((omega arith, tt), tt));
  bottlenecks = refl;
}

-- a bound: every optimal strategy gives x its least value
pub least_is_least : (s : Plan) → Optimal least_x least_x.scopes 0 [] s → value least_x s (TVar (var 0)) [] ≡ pos 0
least_is_least = (outcome_means least_x True (Some (pos 0)) bound_above least_is_valid refl).1.has_value

-- an aggregate: every optimal strategy leaves the other side no move, and gets the number for none
pub greatest_is_seven : (s : Plan) → Optimal greatest_of_none greatest_of_none.scopes 0 [] s → value greatest_of_none s (TAgg (record { 0 = 0 })) [] ≡ pos 7
greatest_is_seven = (outcome_means greatest_of_none True (Some (pos 7)) no_branch greatest_is_valid refl).1.has_value

-- cases on ranges: no value is left on either half, so the game isn't won
pub none_above : ¬ IsWon above_nine
none_above = (outcome_means above_nine False None halves nine_is_valid refl).not_won
