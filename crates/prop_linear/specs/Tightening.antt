-- What one place of a sum lets go.
use Rattle.std.specs.Prelude.{◌≡◌, ⊤, ℕ, List, [], ◌∷◌, map, int_lt, ℤ, pos, ◌+ℤ◌, ◌≤ℤ◌, ◌<ℤ◌, IsTrue, IsFalse}
use Rattle.std.specs.List.{list_all, list_any}
use Rattle.qc_model.specs.declared.problem.Arg.{Arg}
use Rattle.qc_model.specs.declared.problem.Arg.TheVariants.{Var}
use Rattle.qc_model.specs.declared.problem.VarId.{VarId}
use Rattle.qc_model.specs.Closed.{keeps_ends}
use Rattle.qc_model.specs.Content.{Rule}
use Rattle.qc_model.specs.Domains.{Values, Box, values_left, values_within, values_outside, is_none_left}
use Rattle.qc_model.specs.Left.{span, sum_range}
use Rattle.qc_model.specs.Ranges.{Range, point, product}
use Rattle.qc_model.specs.Refuted.{left_to, refuted_by}
use Rattle.qc_model.specs.Valid.{is_number}
use Rattle.model_arguments.specs.Repeats.{same_variable}
use Rattle.prop_base.specs.Closed.{keeps_arg}

-- what a factor times one of these values can be
abbrev pub term_of : ℤ → Values → Range
term_of a d = product (point a) (span d)

-- no value makes the term more than s greater than the least it can be
abbrev pub IsNear : ℤ → ℕ → Values → Type 0
IsNear a s d = (term_of a d).to ≤ℤ ((term_of a d).from +ℤ pos s)

-- the values from low to high are those that do; some stay, and the least that the term can be
pub record IsTightening (a : ℤ) (s : ℕ) (d : Values) (low high : ℤ) : Type 0 where
  pub small_low : IsTrue (is_number low)
  pub small_high : IsTrue (is_number high)
  pub some : IsFalse (is_none_left (values_within low high d))
  pub far : ((term_of a d).from +ℤ pos s) <ℤ (term_of a (values_within low high d)).from
  pub left : IsFalse (is_none_left (values_outside low high d))
  pub same : (term_of a (values_outside low high d)).from ≡ (term_of a d).from
  pub near : IsNear a s (values_outside low high d)

-- place by place
abbrev pub AllNear : ℕ → List ℤ → List Arg → Box → Type 0
AllNear s [] xs box = ⊤
AllNear s (n ∷ ns) [] box = ⊤
AllNear s (n ∷ ns) (x ∷ xs) box = IsNear n s (left_to box x) × AllNear s ns xs box

-- the least that the sum can be
abbrev pub least_sum : List ℤ → List Arg → Box → ℤ
least_sum ns xs box = (sum_range ns (map (left_to box) xs)).from

-- two boxes that may differ at the variables among these alone
abbrev pub AlikeOutside : List Arg → Box → Box → Type 0
AlikeOutside xs box other = (x : VarId) → IsFalse (list_any (same_variable (Var x)) xs) → values_left other x.0 ≡ values_left box x.0

-- where it doesn't refute, and keeps the ends of the items' variables, the constraint keeps those of all its own
abbrev pub AreOwn : Rule → Box → List Arg → Type 0
AreOwn c box xs = (other : Box) → AlikeOutside xs box other → IsFalse (refuted_by c other) → IsTrue (list_all (keeps_arg c other) xs) → IsTrue (keeps_ends other c)

-- a constraint that says no more than that a sum is at most a number, while nothing but its items changes
pub record IsBounded (c : Rule) (box : Box) (ns : List ℤ) (xs : List Arg) (bound : ℤ) : Type 0 where
  pub refuted : (other : Box) → AlikeOutside xs box other → refuted_by c other ≡ int_lt bound (least_sum ns xs other)
  pub own : AreOwn c box xs
