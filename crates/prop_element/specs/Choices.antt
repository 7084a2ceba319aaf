-- Constraints that say which item of an array stands at a place.
use Rattle.std.specs.Prelude.{◌≡◌, ◌⊎◌, ◌<◌, ◌+◌, ℕ, Bool, not, ◌&&◌, List, ◌∷◌, length, map, ℤ, pos, ◌≤ℤ◌, IsTrue, IsFalse}
use Rattle.std.specs.List.{list_all}
use Rattle.qc_model.specs.declared.problem.Arg.{Arg}
use Rattle.qc_model.specs.declared.problem.Pred.TheVariants.{ArrayVarIntElement, ArrayVarBoolElement}
use Rattle.qc_model.specs.Closed.{keeps_ends}
use Rattle.qc_model.specs.Content.{Rule}
use Rattle.qc_model.specs.Domains.{Box, has_value, misses}
use Rattle.qc_model.specs.Left.{some_item_meets}
use Rattle.qc_model.specs.Refuted.{left_to, refuted_by}
use Rattle.model_arguments.specs.Repeats.{has_repeat}
use Rattle.model_arguments.specs.Written.{arg_at, args_at}
use Rattle.qc_refuter.specs.Commons.{IsLeastCommon}
use Rattle.prop_base.specs.Closed.{keeps_arg}
use Rattle.prop_element.specs.Extremes.{item_at}

-- a constraint that says no more than that the item at the place a is r; no variable stands twice
pub record IsChoice (c : Rule) (a : Arg) (items : List Arg) (r : Arg) : Type 0 where
  pub once : IsFalse (has_repeat (a ∷ r ∷ items))
  pub refuted : (box : Box) → refuted_by c box ≡ not (some_item_meets (pos 1) (left_to box a) (map (left_to box) items) (left_to box r))
  pub own : (box : Box) → IsTrue (keeps_arg c box a) → IsTrue (list_all (keeps_arg c box) items) → IsTrue (keeps_arg c box r) → IsTrue (keeps_ends box c)

-- such a constraint by its predicate
pub record IsChoiceRule (c : Rule) : Type 0 where
  pub pred : (c.pred ≡ ArrayVarIntElement) ⊎ (c.pred ≡ ArrayVarBoolElement)
  pub once : IsFalse (has_repeat (arg_at c.args 0 ∷ arg_at c.args 2 ∷ args_at c.args 1))

-- place k, counted from 0, is left, and its item has a value in common with r
abbrev pub item_fits : Box → Arg → List Arg → Arg → ℕ → Bool
item_fits box a items r k = has_value (left_to box a) (pos (k + 1)) && not (misses (left_to box (item_at items k)) (left_to box r))

-- the first place that fits, and the last
pub record IsFirstItem (box : Box) (a : Arg) (items : List Arg) (r : Arg) (k : ℕ) : Type 0 where
  pub place : k < length items
  pub fits : IsTrue (item_fits box a items r k)
  pub none : (j : ℕ) → j < k → IsFalse (item_fits box a items r j)

pub record IsLastItem (box : Box) (a : Arg) (items : List Arg) (r : Arg) (k : ℕ) : Type 0 where
  pub place : k < length items
  pub fits : IsTrue (item_fits box a items r k)
  pub none : (j : ℕ) → k < j → j < length items → IsFalse (item_fits box a items r j)

-- no place fits
abbrev pub NoItem : Box → Arg → List Arg → Arg → Type 0
NoItem box a items r = (j : ℕ) → j < length items → IsFalse (item_fits box a items r j)

-- place k fits, and v is the least value that its item and r may both be
pub record IsLeastMet (box : Box) (a : Arg) (items : List Arg) (r : Arg) (k : ℕ) (v : ℤ) : Type 0 where
  pub fits : IsTrue (item_fits box a items r k)
  pub least : IsLeastCommon (left_to box (item_at items k)) (left_to box r) v

-- place k is left, and its item and r may both be v
pub record IsMet (box : Box) (a : Arg) (items : List Arg) (r : Arg) (k : ℕ) (v : ℤ) : Type 0 where
  pub left : IsTrue (has_value (left_to box a) (pos (k + 1)))
  pub item : IsTrue (has_value (left_to box (item_at items k)) v)
  pub result : IsTrue (has_value (left_to box r) v)

-- some place is met so
pub record IsMetSomewhere (box : Box) (a : Arg) (items : List Arg) (r : Arg) (v : ℤ) : Type 0 where
  pub at : ℕ
  pub place : at < length items
  pub met : IsMet box a items r at v

-- the least value that r may be, and the greatest
pub record IsLowestMet (box : Box) (a : Arg) (items : List Arg) (r : Arg) (v : ℤ) : Type 0 where
  pub some : IsMetSomewhere box a items r v
  pub all : (j : ℕ) (w : ℤ) → j < length items → IsMet box a items r j w → v ≤ℤ w

pub record IsHighestMet (box : Box) (a : Arg) (items : List Arg) (r : Arg) (v : ℤ) : Type 0 where
  pub some : IsMetSomewhere box a items r v
  pub all : (j : ℕ) (w : ℤ) → j < length items → IsMet box a items r j w → w ≤ℤ v

-- of the best value and those at place k one that is met, and none is less, or greater
pub record IsLowerMet (box : Box) (a : Arg) (items : List Arg) (r : Arg) (best : ℤ) (k : ℕ) (v : ℤ) : Type 0 where
  pub some : IsMetSomewhere box a items r v
  pub was : v ≤ℤ best
  pub here : (w : ℤ) → IsMet box a items r k w → v ≤ℤ w

pub record IsHigherMet (box : Box) (a : Arg) (items : List Arg) (r : Arg) (best : ℤ) (k : ℕ) (v : ℤ) : Type 0 where
  pub some : IsMetSomewhere box a items r v
  pub was : best ≤ℤ v
  pub here : (w : ℤ) → IsMet box a items r k w → w ≤ℤ v
