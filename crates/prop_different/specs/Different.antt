-- A constraint that says no more than that its items differ, and what full ranges take from a variable.
use Rattle.std.specs.Prelude.{◌≡◌, ◌<◌, ◌≤◌, ℕ, List, length, map, ℤ, pos, ◌+ℤ◌, ◌≤ℤ◌, ◌<ℤ◌, IsTrue, IsFalse}
use Rattle.std.specs.List.{list_all}
use Rattle.qc_model.specs.declared.problem.Arg.{Arg}
use Rattle.qc_model.specs.Closed.{keeps_ends}
use Rattle.qc_model.specs.Content.{Game, Rule}
use Rattle.qc_model.specs.Domains.{Values, Box, values_within, is_none_left}
use Rattle.qc_model.specs.Left.{has_crowd}
use Rattle.qc_model.specs.Refuted.{left_to, refuted_by}
use Rattle.qc_model.specs.Valid.{is_number, arg_sees}
use Rattle.model_arguments.specs.Asked.{IsAsked}
use Rattle.qc_refuter.specs.Full.{lies_in, held, AreWidest}
use Rattle.qc_refuter.specs.Met.{is_open}
use Rattle.prop_base.specs.Closed.{keeps_arg}
use Rattle.prop_different.specs.Quiet.{IsApart}
use Rattle.model_arguments.specs.Repeats.{has_repeat}

-- it is refuted by a crowd of items, its own variables are among them, and each stands once
pub record IsDifferent (g : Game) (c : Rule) (items : List Arg) : Type 0 where
  pub refuted : (box : Box) → refuted_by c box ≡ has_crowd (map (left_to box) items)
  pub own : (box : Box) → IsTrue (list_all (keeps_arg c box) items) → IsTrue (keeps_ends box c)
  pub once : IsFalse (has_repeat items)
  pub few : length items ≤ 1000
  pub sees : IsTrue (list_all (arg_sees g.variables c.owner.0) items)
  pub opens : (box : Box) → IsAsked g c box → IsTrue (list_all (is_open box) items)

-- the full ranges from l on leave alone what is left to an item
abbrev pub IsLeftAlone : List Values → ℤ → Values → Type 0
IsLeftAlone ds l d = (n : ℕ) → 0 < n → held ds l n ≡ n → IsApart l n d

-- some of what is left lies from low to high, in a full range in which not all of it lies
pub record IsFullCut (ds : List Values) (l : ℤ) (d : Values) (low high : ℤ) : Type 0 where
  pub numbers : ℕ
  pub full : held ds l numbers ≡ numbers
  pub outside : IsFalse (lies_in l numbers d)
  pub from : l ≤ℤ low
  pub to : high <ℤ (l +ℤ pos numbers)
  pub some : IsFalse (is_none_left (values_within low high d))
  pub small_low : IsTrue (is_number low)
  pub small_high : IsTrue (is_number high)

-- of the ranges of at most k numbers, all that are full have at most n, and that of n is full
pub record IsRoom (f : ℕ → ℕ) (top k n : ℕ) : Type 0 where
  pub short : n ≤ k
  pub full : f n ≡ n
  pub most : (m : ℕ) → m ≤ k → m ≤ top → f m ≡ m → m ≤ n

-- the widest full ranges from l on, for these items
pub record AreRooms (ds : List Values) (l : ℤ) (rooms : List ℕ) (last : ℕ) : Type 0 where
  pub count : length rooms ≡ length ds
  pub widest : AreWidest (held ds l) rooms last
