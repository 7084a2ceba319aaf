-- Constraints that say that a number is the least of an array, or the greatest.
use Rattle.std.specs.Prelude.{◌≡◌, ◌<◌, ℕ, Bool, not, ◌&&◌, List, length, get_or, ℤ, ◌≤ℤ◌, ◌<ℤ◌, int_le, IsTrue, IsFalse}
use Rattle.std.specs.List.{list_any, list_all}
use Rattle.qc_model.specs.declared.problem.Arg.{Arg}
use Rattle.qc_model.specs.declared.problem.Arg.TheVariants.{Var}
use Rattle.qc_model.specs.Closed.{keeps_ends}
use Rattle.qc_model.specs.Content.{Rule}
use Rattle.qc_model.specs.Domains.{Box, least_value, greatest_value}
use Rattle.qc_model.specs.Refuted.{left_to, refuted_by}
use Rattle.prop_base.specs.Closed.{keeps_arg}
use Rattle.model_arguments.specs.Repeats.{same_variable}

-- some item may be at most v, and all may be at least v
abbrev pub some_low : Box → List Arg → ℤ → Bool
some_low box items v = list_any (λ x. int_le (least_value (left_to box x)) v) items

abbrev pub all_high : Box → List Arg → ℤ → Bool
all_high box items v = list_all (λ x. int_le v (greatest_value (left_to box x))) items

-- some item may be at least v, and all may be at most v
abbrev pub some_high : Box → List Arg → ℤ → Bool
some_high box items v = list_any (λ x. int_le v (greatest_value (left_to box x))) items

abbrev pub all_low : Box → List Arg → ℤ → Bool
all_low box items v = list_all (λ x. int_le (least_value (left_to box x)) v) items

-- a constraint that says no more than that m is the least item
pub record IsLeast (c : Rule) (m : Arg) (items : List Arg) : Type 0 where
  pub some : 0 < length items
  pub refuted : (box : Box) → refuted_by c box ≡ not (some_low box items (greatest_value (left_to box m)) && all_high box items (least_value (left_to box m)))
  pub own : (box : Box) → IsTrue (keeps_arg c box m) → IsTrue (list_all (keeps_arg c box) items) → IsTrue (keeps_ends box c)

-- or that it is the greatest
pub record IsGreatest (c : Rule) (m : Arg) (items : List Arg) : Type 0 where
  pub some : 0 < length items
  pub refuted : (box : Box) → refuted_by c box ≡ not (some_high box items (least_value (left_to box m)) && all_low box items (greatest_value (left_to box m)))
  pub own : (box : Box) → IsTrue (keeps_arg c box m) → IsTrue (list_all (keeps_arg c box) items) → IsTrue (keeps_ends box c)

abbrev pub item_at : List Arg → ℕ → Arg
item_at items k = get_or items k (Var (record { 0 = 0 }))

-- f has its least value at the place, or its greatest
pub record IsLowestAt (f : Arg → ℤ) (items : List Arg) (k : ℕ) : Type 0 where
  pub place : k < length items
  pub all : (j : ℕ) → j < length items → f (item_at items k) ≤ℤ f (item_at items j)

pub record IsHighestAt (f : Arg → ℤ) (items : List Arg) (k : ℕ) : Type 0 where
  pub place : k < length items
  pub all : (j : ℕ) → j < length items → f (item_at items j) ≤ℤ f (item_at items k)

-- all items but the one at the place are above v, or some other isn't
abbrev pub IsAloneLow : Box → List Arg → ℕ → ℤ → Type 0
IsAloneLow box items p v =
    (j : ℕ) → j < length items → IsFalse (same_variable (item_at items p) (item_at items j)) → v <ℤ least_value (left_to box (item_at items j))

pub record HasOtherLow (box : Box) (items : List Arg) (p : ℕ) (v : ℤ) : Type 0 where
  pub at : ℕ
  pub place : at < length items
  pub other : IsFalse (same_variable (item_at items p) (item_at items at))
  pub low : least_value (left_to box (item_at items at)) ≤ℤ v

-- all others are below v, or some other isn't
abbrev pub IsAloneHigh : Box → List Arg → ℕ → ℤ → Type 0
IsAloneHigh box items p v =
    (j : ℕ) → j < length items → IsFalse (same_variable (item_at items p) (item_at items j)) → greatest_value (left_to box (item_at items j)) <ℤ v

pub record HasOtherHigh (box : Box) (items : List Arg) (p : ℕ) (v : ℤ) : Type 0 where
  pub at : ℕ
  pub place : at < length items
  pub other : IsFalse (same_variable (item_at items p) (item_at items at))
  pub high : v ≤ℤ greatest_value (left_to box (item_at items at))

-- neither test fails, as the item at the place shows, and m keeps its ends
pub record IsLeastReady (c : Rule) (box : Box) (m : Arg) (items : List Arg) (p : ℕ) : Type 0 where
  pub place : p < length items
  pub reached : least_value (left_to box (item_at items p)) ≤ℤ greatest_value (left_to box m)
  pub over : (j : ℕ) → j < length items → least_value (left_to box m) ≤ℤ greatest_value (left_to box (item_at items j))
  pub kept : IsTrue (keeps_arg c box m)

pub record IsGreatestReady (c : Rule) (box : Box) (m : Arg) (items : List Arg) (p : ℕ) : Type 0 where
  pub place : p < length items
  pub reached : least_value (left_to box m) ≤ℤ greatest_value (left_to box (item_at items p))
  pub under : (j : ℕ) → j < length items → least_value (left_to box (item_at items j)) ≤ℤ greatest_value (left_to box m)
  pub kept : IsTrue (keeps_arg c box m)
