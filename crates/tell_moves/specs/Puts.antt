-- Tuples that are put into a listing, one after the other.
use Rattle.std.specs.Prelude.{ℕ, zero, suc, Bool, true, false, List, [], ◌∷◌, ◌++◌, ℤ}
use Rattle.tell_moves.specs.declared.listing.Listing.{Listing}
use Rattle.tell_moves.specs.Lines.{tuple_line}

-- the lines so far, for how many more there is room, and whether there are tuples without
pub record State : Type 0 where
  pub text : List ℕ
  pub room : ℕ
  pub more : Bool

abbrev pub state_of : Listing → State
state_of l = record { text = l.text.items; room = l.room; more = l.more }

-- a tuple more
abbrev pub put_to : List ℕ → ℕ → Bool → List ℤ → State
put_to text room true t = record { text = text; room = room; more = true }
put_to text zero false t = record { text = text; room = zero; more = true }
put_to text (suc room) false t = record { text = text ++ tuple_line t; room = room; more = false }

abbrev pub put : State → List ℤ → State
put s t = put_to s.text s.room s.more t

-- and more of them
abbrev pub puts : State → List (List ℤ) → State
puts s [] = s
puts s (t ∷ ts) = puts (put s t) ts
