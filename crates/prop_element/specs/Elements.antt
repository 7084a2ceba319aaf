-- Constraints that say which number of an array stands at a place.
use Rattle.std.specs.Prelude.{◌≡◌, ◌⊎◌, ◌<◌, ◌≤◌, ◌+◌, ℕ, Bool, not, ◌&&◌, List, length, get_or, ℤ, pos, ◌≤ℤ◌, IsTrue, IsFalse}
use Rattle.qc_model.specs.declared.problem.Arg.{Arg}
use Rattle.qc_model.specs.declared.problem.Pred.TheVariants.{ArrayIntElement, ArrayBoolElement}
use Rattle.qc_model.specs.Closed.{keeps_ends}
use Rattle.model_arguments.specs.Written.{arg_at}
use Rattle.qc_model.specs.Content.{Rule}
use Rattle.qc_model.specs.Domains.{Values, Box, has_value}
use Rattle.qc_model.specs.Left.{some_item_in}
use Rattle.qc_model.specs.Refuted.{left_to, refuted_by}
use Rattle.prop_base.specs.Closed.{keeps_arg}
use Rattle.model_arguments.specs.Repeats.{same_variable}

-- a constraint that says no more than that the number at the place a is r
pub record IsElement (c : Rule) (a : Arg) (ns : List ℤ) (r : Arg) : Type 0 where
  pub apart : IsFalse (same_variable a r)
  pub refuted : (box : Box) → refuted_by c box ≡ not (some_item_in (pos 1) (left_to box a) ns (left_to box r))
  pub own : (box : Box) → IsTrue (keeps_arg c box a) → IsTrue (keeps_arg c box r) → IsTrue (keeps_ends box c)

-- such a constraint by its predicate, where these are not the same variable
pub record IsElementRule (c : Rule) : Type 0 where
  pub pred : (c.pred ≡ ArrayIntElement) ⊎ (c.pred ≡ ArrayBoolElement)
  pub apart : IsFalse (same_variable (arg_at c.args 0) (arg_at c.args 2))

-- the place, counted from 1, is among the first values, and its number among the others
abbrev pub place_fits : Values → List ℤ → Values → ℕ → Bool
place_fits b ns c k = has_value b (pos (k + 1)) && has_value c (get_or ns k (pos 0))

-- none of the places before k, counted from 1, is among the values, and none of so many from k on
abbrev pub NoneBefore : Values → ℕ → Type 0
NoneBefore b k = (j : ℕ) → j < k → IsFalse (has_value b (pos (j + 1)))

abbrev pub NoneFrom : Values → ℕ → ℕ → Type 0
NoneFrom b n k = (j : ℕ) → k ≤ j → j < n → IsFalse (has_value b (pos (j + 1)))

-- the first place that fits, and the last
pub record IsFirstPlace (b : Values) (ns : List ℤ) (c : Values) (k : ℕ) : Type 0 where
  pub place : k < length ns
  pub fits : IsTrue (place_fits b ns c k)
  pub none : (j : ℕ) → j < k → IsFalse (place_fits b ns c j)

pub record IsLastPlace (b : Values) (ns : List ℤ) (c : Values) (k : ℕ) : Type 0 where
  pub place : k < length ns
  pub fits : IsTrue (place_fits b ns c k)
  pub none : (j : ℕ) → k < j → j < length ns → IsFalse (place_fits b ns c j)

-- no place fits
abbrev pub NoPlace : Values → List ℤ → Values → Type 0
NoPlace b ns c = (j : ℕ) → j < length ns → IsFalse (place_fits b ns c j)

-- of the best place and place k, which is taken only if it fits, one with the least number, or the greatest
pub record IsLowerPlace (b : Values) (ns : List ℤ) (c : Values) (was k n : ℕ) : Type 0 where
  pub place : n < length ns
  pub fits : IsTrue (place_fits b ns c n)
  pub best : get_or ns n (pos 0) ≤ℤ get_or ns was (pos 0)
  pub other : IsTrue (place_fits b ns c k) → get_or ns n (pos 0) ≤ℤ get_or ns k (pos 0)

pub record IsHigherPlace (b : Values) (ns : List ℤ) (c : Values) (was k n : ℕ) : Type 0 where
  pub place : n < length ns
  pub fits : IsTrue (place_fits b ns c n)
  pub best : get_or ns was (pos 0) ≤ℤ get_or ns n (pos 0)
  pub other : IsTrue (place_fits b ns c k) → get_or ns k (pos 0) ≤ℤ get_or ns n (pos 0)

-- of the places that fit one with the least number, and one with the greatest
pub record IsLowestPlace (b : Values) (ns : List ℤ) (c : Values) (k : ℕ) : Type 0 where
  pub place : k < length ns
  pub fits : IsTrue (place_fits b ns c k)
  pub all : (j : ℕ) → j < length ns → IsTrue (place_fits b ns c j) → get_or ns k (pos 0) ≤ℤ get_or ns j (pos 0)

pub record IsHighestPlace (b : Values) (ns : List ℤ) (c : Values) (k : ℕ) : Type 0 where
  pub place : k < length ns
  pub fits : IsTrue (place_fits b ns c k)
  pub all : (j : ℕ) → j < length ns → IsTrue (place_fits b ns c j) → get_or ns j (pos 0) ≤ℤ get_or ns k (pos 0)
