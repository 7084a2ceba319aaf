-- Literals: arguments of truth values and their negations.
use Rattle.std.specs.Prelude.{◌≡◌, Bool, true, false, not, ◌&&◌, ◌||◌, cond, List, [], ◌∷◌, ◌++◌, map, ℤ, pos, IsTrue}
use Rattle.std.specs.List.{list_all, list_any}
use Rattle.qc_model.specs.declared.problem.Arg.{Arg}
use Rattle.qc_model.specs.Content.{Game, Rule}
use Rattle.qc_model.specs.Domains.{Values, Box, is_none_left, is_ascending}
use Rattle.qc_model.specs.Holds.{same_truth}
use Rattle.qc_model.specs.Left.{is_only}
use Rattle.qc_model.specs.Refuted.{left_to, refuted_by}
use Rattle.qc_model.specs.Valid.{is_truth}
use Rattle.model_arguments.specs.Asked.{IsAsked}
use Rattle.model_arguments.specs.Repeats.{same_variable}
use Rattle.prop_bool.specs.declared.literals.Literal.{Literal}

-- the number of a truth value
abbrev pub truth_number : Bool → ℤ
truth_number true = pos 1
truth_number false = pos 0

-- what is left of a truth value: 0, 1 or both
abbrev pub is_truth_left : Values → Bool
is_truth_left d = (not (is_none_left d) && is_ascending d) && list_all is_truth d

abbrev pub both_truths : Values
both_truths = pos 0 ∷ pos 1 ∷ []

abbrev pub is_truth_at : Box → Literal → Bool
is_truth_at box l = is_truth_left (left_to box l.arg)

-- the one value left makes the literal true, or false; or both are left
abbrev pub surely_holds : Box → Literal → Bool
surely_holds box l = is_only (truth_number l.positive) (left_to box l.arg)

abbrev pub surely_fails : Box → Literal → Bool
surely_fails box l = is_only (truth_number (not l.positive)) (left_to box l.arg)

abbrev pub IsUnfixed : Box → Literal → Type 0
IsUnfixed box l = left_to box l.arg ≡ both_truths

-- the same variable, plain in both or negated in both
abbrev pub same_literal : Literal → Literal → Bool
same_literal l m = same_variable l.arg m.arg && same_truth l.positive m.positive

-- the arguments of two arrays: plain in the first, negated in the second
abbrev pub plain : Arg → Literal
plain a = record { arg = a; positive = true }

abbrev pub negated : Arg → Literal
negated a = record { arg = a; positive = false }

abbrev pub literals : List Arg → List Arg → List Literal
literals first second = map plain first ++ map negated second

-- the variable of the head stands among them as its negation
abbrev pub is_opposed : List Arg → List Arg → Literal → Bool
is_opposed first second head =
    cond head.positive (list_any (same_variable head.arg) second) (list_any (same_variable head.arg) first)

-- the constraint says that r holds where some literal does, and fails where none does
pub record IsDisjunction (g : Game) (c : Rule) (ls : List Literal) (r : Literal) : Type 0 where
  pub truths : (box : Box) → IsAsked g c box → IsTrue (list_all (is_truth_at box) (r ∷ ls))
  pub refuted : (box : Box) → IsAsked g c box → refuted_by c box ≡ ((surely_fails box r && list_any (surely_holds box) ls) || (surely_holds box r && list_all (surely_fails box) ls))
