-- Constraints that compare two arguments, and what filtering does to their boxes.
use Rattle.std.specs.Prelude.{◌≡◌, ℕ, Bool, true, false, ◌&&◌, set, int_lt, ℤ, ◌+ℤ◌, IsTrue, IsFalse}
use Rattle.qc_model.specs.declared.problem.Arg.{Arg}
use Rattle.qc_model.specs.declared.problem.Arg.TheVariants.{Var, Num}
use Rattle.qc_model.specs.declared.problem.VarId.{VarId}
use Rattle.qc_model.specs.Closed.{keeps_ends}
use Rattle.qc_model.specs.Content.{Game, Rule}
use Rattle.qc_model.specs.Domains.{Values, Box, values_left, values_within, is_none_left, has_value, least_value, greatest_value}
use Rattle.qc_model.specs.Meaning.{Meaning, equal, different, at_most, below}
use Rattle.qc_model.specs.Refuted.{left_to, refuted_by}
use Rattle.qc_model.specs.Valid.{is_number, arg_sees}
use Rattle.model_arguments.specs.Repeats.{is_variable, same_variable}
use Rattle.qc_refuter.specs.Met.{is_open}
use Rattle.prop_base.specs.Closed.{keeps_arg}
use Rattle.prop_compare.specs.declared.comparing.Comparison.{Comparison}
use Rattle.prop_compare.specs.declared.comparing.Comparison.TheVariants.{Equal, Different, AtMost, Below}

-- the argument has these values, where it is a variable
abbrev pub box_with : Box → Arg → Values → Box
box_with box (Var x) d = set box x.0 d
box_with box (Num n) d = box

-- and keeps those from low to high
abbrev pub box_kept : Box → Arg → ℤ → ℤ → Box
box_kept box a low high = box_with box a (values_within low high (left_to box a))

-- two boxes that may differ at a and b alone
abbrev pub AlikeBut : Arg → Arg → Box → Box → Type 0
AlikeBut a b box other = (k : ℕ) → IsFalse (is_variable a k) → IsFalse (is_variable b k) → values_left other k ≡ values_left box k

-- two arguments of a constraint, not the same variable, that alone decide whether it keeps its ends, where each has values left
pub record IsPair (g : Game) (c : Rule) (box : Box) (a b : Arg) : Type 0 where
  pub apart : IsFalse (same_variable a b)
  pub sees_first : IsTrue (arg_sees g.variables c.owner.0 a)
  pub sees_second : IsTrue (arg_sees g.variables c.owner.0 b)
  pub open_first : IsTrue (is_open box a)
  pub open_second : IsTrue (is_open box b)
  pub own : (other : Box) → AlikeBut a b box other → IsFalse (is_none_left (left_to other a)) → IsFalse (is_none_left (left_to other b)) → IsTrue (keeps_arg c other a) → IsTrue (keeps_arg c other b) → IsTrue (keeps_ends other c)

-- a test of what is left to both says when the constraint refutes
abbrev pub IsTested : Rule → Box → Arg → Arg → (Values → Values → Bool) → Type 0
IsTested c box a b test = (other : Box) → AlikeBut a b box other → refuted_by c other ≡ test (left_to other a) (left_to other b)

-- no value of the first is at least the gap below one of the second
abbrev pub is_over : ℤ → Values → Values → Bool
is_over gap d e = int_lt (greatest_value e) (least_value d +ℤ gap)

-- some of the values, each of which passes
pub record IsPart (p : ℤ → Bool) (d all : Values) : Type 0 where
  pub some : IsFalse (is_none_left d)
  pub each : (v : ℤ) → IsTrue (has_value d v) → IsTrue (p v && has_value all v)

-- some values left to the argument are from low to high, and all others are refuted
pub record IsNarrowing (c : Rule) (box : Box) (a : Arg) (low high : ℤ) : Type 0 where
  pub small_low : IsTrue (is_number low)
  pub small_high : IsTrue (is_number high)
  pub some : IsFalse (is_none_left (values_within low high (left_to box a)))
  pub under : (x : VarId) → a ≡ Var x → (d : Values) → IsPart (λ v. int_lt v low) d (values_left box x.0) → IsTrue (refuted_by c (set box x.0 d))
  pub over : (x : VarId) → a ≡ Var x → (d : Values) → IsPart (λ v. int_lt high v) d (values_left box x.0) → IsTrue (refuted_by c (set box x.0 d))

abbrev pub is_literal_arg : Arg → Bool
is_literal_arg (Var x) = false
is_literal_arg (Num n) = true

-- the meaning of a comparison
abbrev pub meant_by : Comparison → Meaning
meant_by Equal = equal
meant_by Different = different
meant_by AtMost = at_most
meant_by Below = below
