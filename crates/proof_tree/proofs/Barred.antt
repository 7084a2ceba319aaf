-- A tuple is barred only where the restriction doesn't hold on it, and goes on only where it does.
use Rattle.std.proofs.Common.{◌≡◌, refl}
use Rattle.std.specs.Prelude.{[], ◌∷◌, true, false, None, pos}
use Rattle.qc_model.specs.declared.problem.Kind.TheVariants.{Exists}
use Rattle.qc_model.specs.declared.problem.Domain.TheVariants.{Range}
use Rattle.qc_model.specs.declared.problem.Arg.TheVariants.{Var, Num}
use Rattle.qc_model.specs.declared.problem.Argument.TheVariants.{One}
use Rattle.qc_model.specs.declared.problem.Pred.TheVariants.{IntLt}
use Rattle.qc_model.specs.Content.{Game}
use Rattle.proof_tree.specs.declared.tree.Outcome.TheVariants.{True, False}
use Rattle.proof_tree.specs.Tree.{Tree, tree, goal, cases, barred, next}
use Rattle.proof_tree.specs.Proves.{proves}
use Rattle.proof_tree.proofs.Build.{var, scope, variable, rule}

-- exists; var 0..0: x; goal; solve;
abbrev free_x : Game
free_x = record {
  scopes = scope Exists ∷ [];
  variables = variable 0 (Range (pos 0) (pos 0)) ∷ [];
  aggregates = [];
  constraints = [];
}

-- exists; var 0..0: x; constraint int_lt(0,x); goal; solve;
abbrev bound_x : Game
bound_x = record {
  scopes = scope Exists ∷ [];
  variables = variable 0 (Range (pos 0) (pos 0)) ∷ [];
  aggregates = [];
  constraints = rule 0 IntLt (One (Num (pos 0)) ∷ One (Var (var 0)) ∷ []) ∷ [];
}

-- x
abbrev bars : Tree
bars = tree None (cases [] barred)

-- n, g
abbrev goes_on : Tree
goes_on = tree None (cases [] (next (tree None goal)))

allowed_not_barred : proves free_x False None bars ≡ false
allowed_not_barred = refl

allowed_goes_on : proves free_x True None goes_on ≡ true
allowed_goes_on = refl

other_is_barred : proves bound_x False None bars ≡ true
other_is_barred = refl

other_goes_not_on : proves bound_x True None goes_on ≡ false
other_goes_not_on = refl
