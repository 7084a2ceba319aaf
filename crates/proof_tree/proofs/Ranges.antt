-- A case may cover a range of values: it ends at a value left, and no case that is taken covers all.
use Rattle.std.proofs.Common.{◌≡◌, refl}
use Rattle.std.specs.Prelude.{[], ◌∷◌, true, false, Some, None, pos, negsuc}
use Rattle.qc_model.specs.declared.problem.Kind.TheVariants.{Exists}
use Rattle.qc_model.specs.declared.problem.Sense.TheVariants.{Min}
use Rattle.qc_model.specs.declared.problem.Target.TheVariants.{Var as TVar}
use Rattle.qc_model.specs.declared.problem.Domain.TheVariants.{Range}
use Rattle.qc_model.specs.declared.problem.Arg.TheVariants.{Var, Num}
use Rattle.qc_model.specs.declared.problem.Argument.TheVariants.{One}
use Rattle.qc_model.specs.declared.problem.Pred.TheVariants.{IntLt}
use Rattle.qc_model.specs.Content.{Game}
use Rattle.qc_model.specs.Plan.{finish, choose}
use Rattle.proof_tree.specs.declared.tree.Outcome.TheVariants.{True, False, Open}
use Rattle.proof_tree.specs.Tree.{Tree, tree, goal, cases, empty, next, branch, no_more, piece, skip, left_open, go}
use Rattle.proof_tree.specs.Cover.{covered, uncovered, is_cover}
use Rattle.proof_tree.specs.Counts.{cases_of, turns_of}
use Rattle.proof_tree.specs.Proves.{proves}
use Rattle.proof_tree.specs.Read.{strategy_of}
use Rattle.proof_tree.specs.Order.{in_order}
use Rattle.proof_tree.specs.Diligent.{closes_boxes}
use Rattle.proof_tree.proofs.Build.{var, scope, optimising, variable, rule, prune, skip_one, go_one}

-- exists; var 0..9: x; goal; solve;
abbrev ten_values : Game
ten_values = record {
  scopes = scope Exists ∷ [];
  variables = variable 0 (Range (pos 0) (pos 9)) ∷ [];
  aggregates = [];
  constraints = [];
}

-- exists minimize x; var 0..9: x; goal; solve;
abbrev least_of_ten : Game
least_of_ten = record {
  scopes = optimising Min (TVar (var 0)) ∷ [];
  variables = variable 0 (Range (pos 0) (pos 9)) ∷ [];
  aggregates = [];
  constraints = [];
}

-- exists; var 0..9: x; constraint int_lt(9,x); goal; solve;
abbrev above_nine : Game
above_nine = record {
  scopes = scope Exists ∷ [];
  variables = variable 0 (Range (pos 0) (pos 9)) ∷ [];
  aggregates = [];
  constraints = rule 0 IntLt (One (Num (pos 9)) ∷ One (Var (var 0)) ∷ []) ∷ [];
}

-- v 1, n, g, r 9, s, .
abbrev skips_nine : Tree
skips_nine = tree None (cases [] (branch (var 0) (go_one [] (next (tree None goal)) (piece (Some (pos 9)) skip no_more))))

-- v 1, n, g, r 8, s, .
abbrev skips_eight : Tree
skips_eight = tree None (cases [] (branch (var 0) (go_one [] (next (tree None goal)) (piece (Some (pos 8)) skip no_more))))

-- v 1, n, g, r 8, s, s, .
abbrev skips_apart : Tree
skips_apart = tree None (cases [] (branch (var 0) (go_one [] (next (tree None goal)) (piece (Some (pos 8)) skip (skip_one no_more)))))

-- v 1, n, g, r 1, s, r 9, s, .
abbrev skips_one_as_range : Tree
skips_one_as_range = tree None (cases [] (branch (var 0) (go_one [] (next (tree None goal)) (piece (Some (pos 1)) skip (piece (Some (pos 9)) skip no_more)))))

-- v 1, r 4, p 1 0 4 1, e, r 9, p 1 5 9 1, e, .
abbrev halves : Tree
halves = tree None (cases [] (branch (var 0) (piece (Some (pos 4)) (go (prune 0 (pos 0) (pos 4) 0 ∷ []) empty) (piece (Some (pos 9)) (go (prune 0 (pos 5) (pos 9) 0 ∷ []) empty) no_more))))

-- v 1, r 9, p 1 0 9 1, e, .
abbrev whole : Tree
whole = tree None (cases [] (branch (var 0) (piece (Some (pos 9)) (go (prune 0 (pos 0) (pos 9) 0 ∷ []) empty) no_more)))

-- v 1, r 9, o, .
abbrev all_open : Tree
all_open = tree None (cases [] (branch (var 0) (piece (Some (pos 9)) left_open no_more)))

rest_is_skipped : proves ten_values True None skips_nine ≡ true
rest_is_skipped = refl

rest_in_order : in_order ten_values skips_nine ≡ true
rest_in_order = refl

rest_is_diligent : closes_boxes ten_values skips_nine ≡ true
rest_is_diligent = refl

two_cases : cases_of skips_nine ≡ 2
two_cases = refl

takes_the_first : strategy_of ten_values skips_nine ≡ choose (pos 0 ∷ []) finish
takes_the_first = refl

value_without_case : proves ten_values True None skips_eight ≡ false
value_without_case = refl

skip_after_skip : proves ten_values True None skips_apart ≡ true
skip_after_skip = refl

skip_after_skip_in_order : in_order ten_values skips_apart ≡ false
skip_after_skip_in_order = refl

two_values_or_more : proves ten_values True None skips_one_as_range ≡ false
two_values_or_more = refl

may_be_better : proves least_of_ten True (Some (pos 0)) skips_nine ≡ false
may_be_better = refl

both_halves : proves above_nine False None halves ≡ true
both_halves = refl

halves_in_order : in_order above_nine halves ≡ false
halves_in_order = refl

halves_turns : turns_of halves ≡ 2
halves_turns = refl

not_all_values : proves above_nine False None whole ≡ false
not_all_values = refl

open_may_be_all : proves ten_values (Open 0) None all_open ≡ true
open_may_be_all = refl

-- between the values left
ends_at_a_value : is_cover (Some (pos 4)) (negsuc 2 ∷ pos 1 ∷ pos 5 ∷ []) ≡ false
ends_at_a_value = refl

from_first_to_last : covered (Some (pos 5)) (negsuc 2 ∷ pos 1 ∷ pos 5 ∷ pos 8 ∷ []) ≡ negsuc 2 ∷ pos 1 ∷ pos 5 ∷ []
from_first_to_last = refl

others_are_left : uncovered (Some (pos 5)) (negsuc 2 ∷ pos 1 ∷ pos 5 ∷ pos 8 ∷ []) ≡ pos 8 ∷ []
others_are_left = refl
