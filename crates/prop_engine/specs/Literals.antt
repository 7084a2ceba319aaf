-- The literals of a clause, and boxes in which it refutes no end.
use Rattle.std.specs.Prelude.{◌==◌, ◌≡◌, ⊤, ℕ, Bool, true, false, ◌&&◌, cond, Some, List, slice_get, ℤ, pos, IsTrue, IsFalse}
use Rattle.std.specs.List.{list_all}
use Rattle.qc_model.specs.declared.problem.Arg.{Arg}
use Rattle.qc_model.specs.declared.problem.Arg.TheVariants.{Var}
use Rattle.qc_model.specs.Domains.{Box, values_left, box_at, is_single, least_value}
use Rattle.qc_model.specs.Holds.{same_truth}
use Rattle.qc_model.specs.Left.{is_only}
use Rattle.qc_model.specs.Refuted.{left_to}
use Rattle.prop_engine.specs.declared.literals.Literal.{Literal}
use Rattle.prop_engine.specs.declared.literals.Standing.{Standing}
use Rattle.prop_engine.specs.declared.literals.Standing.TheVariants.{Holds, Fails, Unfixed}

-- the number by which a literal fails
abbrev pub failing : Bool → ℤ
failing true = pos 0
failing false = pos 1

-- one value is left to it, by which it fails; one value is left to it
abbrev pub surely_fails : Box → Literal → Bool
surely_fails box l = is_only (failing l.positive) (values_left box l.x.0)

abbrev pub is_fixed : Box → Literal → Bool
is_fixed box l = is_single (values_left box l.x.0)

-- what is said of a literal; nothing where it may fail
abbrev pub Stands : Standing → Box → Literal → Type 0
Stands Holds box l = IsTrue (is_fixed box l) × IsFalse (surely_fails box l)
Stands Fails box l = ⊤
Stands Unfixed box l = IsFalse (is_fixed box l)

-- the same variable, plain in both or negated in both
abbrev pub same_literal : Literal → Literal → Bool
same_literal l m = (m.x.0 == l.x.0) && same_truth l.positive m.positive

-- one of the literals of two arrays, of which the second has negated ones
pub record IsLiteralOf (plain negated : List Arg) (l : Literal) : Type 0 where
  pub place : ℕ
  pub there : slice_get (cond l.positive plain negated) place ≡ Some (Var l.x)

-- all literals fail
abbrev pub all_fail : Box → List Arg → List Arg → Bool
all_fail box plain negated =
    list_all (λ a. is_only (pos 0) (left_to box a)) plain && list_all (λ a. is_only (pos 1) (left_to box a)) negated

-- where one value alone is left to y, it is v
abbrev pub IsLeft : Box → ℕ → ℤ → Type 0
IsLeft box y v = IsTrue (is_single (values_left box y)) → least_value (values_left box y) ≡ v

-- whichever variable is given a value alone, as it may be, some literal doesn't fail
abbrev pub StaysOpen : Box → List Arg → List Arg → Type 0
StaysOpen box plain negated = (y : ℕ) (v : ℤ) → IsLeft box y v → IsFalse (all_fail (box_at box y v) plain negated)
