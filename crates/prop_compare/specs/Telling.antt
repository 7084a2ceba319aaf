-- Constraints whose last argument tells whether a comparison of two others holds.
use Rattle.std.specs.Prelude.{◌≡◌, Bool, true, false, not, ◌&&◌, ◌||◌, ℤ, pos, IsTrue, IsFalse}
use Rattle.std.specs.List.{list_all}
use Rattle.qc_model.specs.declared.problem.Arg.{Arg}
use Rattle.qc_model.specs.Closed.{keeps_ends}
use Rattle.qc_model.specs.Content.{Game, Rule}
use Rattle.qc_model.specs.Domains.{Values, Box, has_value, misses}
use Rattle.qc_model.specs.Left.{are_one_value}
use Rattle.qc_model.specs.Refuted.{left_to, refuted_by}
use Rattle.qc_model.specs.Valid.{arg_sees, is_truth}
use Rattle.qc_refuter.specs.Met.{is_open}
use Rattle.prop_base.specs.Closed.{keeps_arg}
use Rattle.model_arguments.specs.Repeats.{same_variable}
use Rattle.prop_compare.specs.Compared.{is_over, is_literal_arg}
use Rattle.prop_compare.specs.declared.comparing.Comparison.{Comparison}
use Rattle.prop_compare.specs.declared.comparing.Comparison.TheVariants.{Equal, Different, AtMost, Below}

-- the comparison holds of no two of the values
abbrev pub refuting : Comparison → Values → Values → Bool
refuting Equal d e = misses d e
refuting Different d e = are_one_value d e
refuting AtMost d e = is_over (pos 0) d e
refuting Below d e = is_over (pos 1) d e

-- it holds of each two
abbrev pub entailing : Comparison → Values → Values → Bool
entailing Equal d e = are_one_value d e
entailing Different d e = misses d e
entailing AtMost d e = is_over (pos 1) e d
entailing Below d e = is_over (pos 0) e d

abbrev pub truth_of : Bool → ℤ
truth_of true = pos 1
truth_of false = pos 0

-- it is of no two of the values what is told of it
abbrev pub refuting_as : Comparison → Bool → Values → Values → Bool
refuting_as k true d e = refuting k d e
refuting_as k false d e = entailing k d e

-- it is none of what f may tell
abbrev pub is_mistold : Comparison → Values → Values → Values → Bool
is_mistold k d e f = (not (has_value f (pos 1)) || refuting k d e) && (not (has_value f (pos 0)) || entailing k d e)

-- both are numbers, or some two of the three are the same variable
abbrev pub are_tangled : Arg → Arg → Arg → Bool
are_tangled a b r = (is_literal_arg a && is_literal_arg b) || (same_variable a b || (same_variable a r || same_variable b r))

-- r tells whether a and b compare so, these three alone decide, and they aren't tangled
pub record IsTelling (g : Game) (c : Rule) (box : Box) (k : Comparison) (a b r : Arg) : Type 0 where
  pub untangled : IsFalse (are_tangled a b r)
  pub sees_first : IsTrue (arg_sees g.variables c.owner.0 a)
  pub sees_second : IsTrue (arg_sees g.variables c.owner.0 b)
  pub open_first : IsTrue (is_open box a)
  pub open_second : IsTrue (is_open box b)
  pub open_last : IsTrue (is_open box r)
  pub truth : IsTrue (list_all is_truth (left_to box r))
  pub refutes : (other : Box) → refuted_by c other ≡ is_mistold k (left_to other a) (left_to other b) (left_to other r)
  pub own : (other : Box) → IsTrue (keeps_arg c other a) → IsTrue (keeps_arg c other b) → IsTrue (keeps_arg c other r) → IsTrue (keeps_ends other c)
