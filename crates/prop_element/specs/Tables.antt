-- Constraints that say that items are a row of a table.
use Rattle.std.specs.Prelude.{◌≡◌, ◌⊎◌, ℕ, Bool, not, ◌&&◌, List, ◌∷◌, map, get_or, ℤ, pos, ◌≤ℤ◌, IsTrue, IsFalse}
use Rattle.std.specs.List.{list_any, list_all}
use Rattle.qc_model.specs.declared.problem.Arg.{Arg}
use Rattle.qc_model.specs.declared.problem.Pred.TheVariants.{TableInt}
use Rattle.qc_model.specs.Closed.{keeps_ends}
use Rattle.qc_model.specs.Content.{Rule}
use Rattle.qc_model.specs.Domains.{Values, Box, is_within}
use Rattle.qc_model.specs.Left.{row_fits}
use Rattle.qc_model.specs.Lists.{Among}
use Rattle.qc_model.specs.Refuted.{left_to, refuted_by}
use Rattle.model_arguments.specs.Written.{args_at}
use Rattle.prop_base.specs.Closed.{keeps_arg}
use Rattle.model_arguments.specs.Repeats.{has_repeat}

-- a constraint that says no more than that the items are one of the rows; no variable stands twice
pub record IsTable (c : Rule) (items : List Arg) (rs : List (List ℤ)) : Type 0 where
  pub once : IsFalse (has_repeat items)
  pub refuted : (box : Box) → refuted_by c box ≡ not (list_any (row_fits (map (left_to box) items)) rs)
  pub own : (box : Box) → IsTrue (list_all (keeps_arg c box) items) → IsTrue (keeps_ends box c)

-- such a constraint by its predicate
pub record IsTableRule (c : Rule) : Type 0 where
  pub pred : c.pred ≡ TableInt
  pub once : IsFalse (has_repeat (args_at c.args 0))

-- one of the rows, which fits what is left
pub record IsFitting (ds : List Values) (rs : List (List ℤ)) (row : List ℤ) : Type 0 where
  pub among : Among row rs
  pub fits : IsTrue (row_fits ds row)

-- its entry at the place is from one number to another
abbrev pub has_entry : ℕ → ℤ → ℤ → List ℤ → Bool
has_entry k from to row = is_within from to (get_or row k (pos 0))

-- it fits, and its entry at the place isn't from low to high
abbrev pub fits_beyond : List Values → ℕ → ℤ → ℤ → List ℤ → Bool
fits_beyond ds k low high row = not (has_entry k low high row) && row_fits ds row

-- none of the rows is so
abbrev pub NoneIs : (List ℤ → Bool) → List (List ℤ) → Type 0
NoneIs p rs = (row : List ℤ) → Among row rs → IsFalse (p row)

-- no row fits
abbrev pub NoRow : List Values → List (List ℤ) → Type 0
NoRow ds rs = NoneIs (row_fits ds) rs

-- the rows that are left are among all, and no other is so
pub record IsWalk (p : List ℤ → Bool) (rs rest : List (List ℤ)) : Type 0 where
  pub sub : (row : List ℤ) → Among row rest → Among row rs
  pub all : (row : List ℤ) → Among row rs → IsTrue (p row) → Among row rest

-- the first of the rows that is so, and those after it
pub record IsNext (p : List ℤ → Bool) (rs : List (List ℤ)) (row : List ℤ) (later : List (List ℤ)) : Type 0 where
  pub passes : IsTrue (p row)
  pub walk : IsWalk p rs (row ∷ later)

-- it fits, and none that fits has a lesser entry at the place, or a greater one, but for the rows that weren't seen
pub record IsLowestRow (ds : List Values) (rs : List (List ℤ)) (k : ℕ) (best : List ℤ) (rest : List (List ℤ)) : Type 0 where
  pub fitting : IsFitting ds rs best
  pub all : (row : List ℤ) → IsFitting ds rs row → (get_or best k (pos 0) ≤ℤ get_or row k (pos 0)) ⊎ Among row rest

pub record IsHighestRow (ds : List Values) (rs : List (List ℤ)) (k : ℕ) (best : List ℤ) (rest : List (List ℤ)) : Type 0 where
  pub fitting : IsFitting ds rs best
  pub all : (row : List ℤ) → IsFitting ds rs row → (get_or row k (pos 0) ≤ℤ get_or best k (pos 0)) ⊎ Among row rest
