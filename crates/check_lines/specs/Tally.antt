-- What is summed up over the lines of a tree.
use Rattle.std.specs.Prelude.{ℕ, ◌+◌, Bool, true, ◌&&◌}

-- each line so far is in place; the cases taken and those left open
pub record Tally : Type 0 where
  pub in_place : Bool
  pub turns : ℕ
  pub opens : ℕ

abbrev pub nothing : Tally
nothing = record { in_place = true; turns = 0; opens = 0 }

infixl 50 ◌&◌
abbrev pub ◌&◌ : Tally → Tally → Tally
a & b = record { in_place = a.in_place && b.in_place; turns = a.turns + b.turns; opens = a.opens + b.opens }

-- one line
abbrev pub test : Bool → Tally
test b = record { in_place = b; turns = 0; opens = 0 }

-- the start of a case that is taken, and a case that is left open
abbrev pub taken : Bool → Tally
taken b = record { in_place = b; turns = 1; opens = 0 }

abbrev pub one_open : Bool → Tally
one_open b = record { in_place = b; turns = 0; opens = 1 }
