-- Values that are members of a set, or not.
use Rattle.std.specs.Prelude.{◌≡◌, ℤ, ◌≤ℤ◌, Bool, true, false, not, [], ◌∷◌, IsTrue, IsFalse}
use Rattle.std.specs.List.{list_any}
use Rattle.qc_model.specs.declared.problem.Arg.{Arg}
use Rattle.qc_model.specs.declared.problem.Set.{Set}
use Rattle.qc_model.specs.Closed.{keeps_ends}
use Rattle.qc_model.specs.Content.{Rule}
use Rattle.qc_model.specs.Domains.{Values, Box, has_value, set_has}
use Rattle.qc_model.specs.Refuted.{left_to, refuted_by}
use Rattle.model_arguments.specs.Repeats.{same_variable}
use Rattle.prop_base.specs.Closed.{keeps_arg}
use Rattle.prop_compare.specs.Telling.{truth_of}

-- a constraint that says no more than that the argument is a member
pub record IsMembership (c : Rule) (a : Arg) (s : Set) : Type 0 where
  pub refuted : (box : Box) → refuted_by c box ≡ not (list_any (set_has s) (left_to box a))
  pub own : (box : Box) → IsTrue (keeps_arg c box a) → IsTrue (keeps_ends box c)

-- what is wanted of a number: that it is a member, or that it isn't
abbrev pub is_wanted : Bool → Set → ℤ → Bool
is_wanted true s = set_has s
is_wanted false s = λ v. not (set_has s v)

-- a constraint that says no more than that r tells whether the argument is a member, by what it says once r tells it
pub record IsToldMember (c : Rule) (a : Arg) (s : Set) (r : Arg) : Type 0 where
  pub apart : IsFalse (same_variable r a)
  pub told : (box : Box) (t : Bool) → left_to box r ≡ truth_of t ∷ [] → refuted_by c box ≡ not (list_any (is_wanted t s) (left_to box a))
  pub own : (box : Box) → IsTrue (keeps_arg c box a) → IsTrue (keeps_arg c box r) → IsTrue (keeps_ends box c)

-- v is the least of the values that pass, and the greatest
pub record IsFirst (p : ℤ → Bool) (d : Values) (v : ℤ) : Type 0 where
  pub there : IsTrue (has_value d v)
  pub passes : IsTrue (p v)
  pub all : (u : ℤ) → IsTrue (has_value d u) → IsTrue (p u) → v ≤ℤ u

pub record IsLast (p : ℤ → Bool) (d : Values) (v : ℤ) : Type 0 where
  pub there : IsTrue (has_value d v)
  pub passes : IsTrue (p v)
  pub all : (u : ℤ) → IsTrue (has_value d u) → IsTrue (p u) → u ≤ℤ v

-- no value passes
abbrev pub NonePasses : (ℤ → Bool) → Values → Type 0
NonePasses p d = (u : ℤ) → IsTrue (has_value d u) → IsTrue (p u) → ⊥
