-- Which pieces may come where.
use Rattle.std.specs.Prelude.{ℕ, zero, suc, Bool, true, false, cond, ◌&&◌, ◌≡◌, List, [], ◌∷◌}
use Rattle.dense_text.specs.declared.piece.Tuple.{Tuple}
use Rattle.dense_text.specs.declared.piece.Tuple.TheVariants.{Given as GivenTuple, Reply as ReplyTuple, Chosen as ChosenTuple}
use Rattle.dense_text.specs.declared.piece.Piece.{Piece}
use Rattle.dense_text.specs.declared.piece.Piece.TheVariants.{Head, Given, Reply, Chosen, Value, Named, Horizon, Stuck, Goal, Again, NoPlay, Close, Bound, Empty, Barred, BestLeft, Next, Branch, Range, Skip, LeftOpen, Dot}
use Rattle.dense_text.specs.declared.parts.Due.{Due}
use Rattle.dense_text.specs.declared.parts.Due.TheVariants.{Givens, Node, AfterName, AfterHorizon, AfterStep, Case, AfterRange, Ended}

pub data Place : Type 0 where
  at_start : Place
  -- in a tuple's line
  at_value : Tuple → Place
  -- at the beginning of a line, or at the end of the text
  at : Due → Place

-- the root, or another given tuple
abbrev pub may_give : Due → Bool
may_give Givens = true
may_give d = false

-- a node that isn't begun yet
abbrev pub may_begin : Due → Bool
may_begin Givens = true
may_begin Node = true
may_begin d = false

-- it has no horizon yet
abbrev pub may_limit : Due → Bool
may_limit Givens = true
may_limit Node = true
may_limit AfterName = true
may_limit d = false

-- it has no step yet
abbrev pub may_end : Due → Bool
may_end Givens = true
may_end Node = true
may_end AfterName = true
may_end AfterHorizon = true
may_end d = false

-- steps and ends
abbrev pub may_step : Due → Bool
may_step Ended = false
may_step d = true

-- a node says by itself that no play is left, or else an end does, which isn't the first line of a named node or of one with a
-- horizon
abbrev pub may_give_up : Due → Bool
may_give_up AfterName = false
may_give_up AfterHorizon = false
may_give_up Ended = false
may_give_up d = true

abbrev pub may_range : Due → Bool
may_range Case = true
may_range d = false

abbrev pub may_skip : Due → Bool
may_skip Case = true
may_skip AfterRange = true
may_skip d = false

abbrev pub is_same : Tuple → Tuple → Bool
is_same GivenTuple GivenTuple = true
is_same ReplyTuple ReplyTuple = true
is_same ChosenTuple ChosenTuple = true
is_same u w = false

abbrev pub allows : Place → Piece → Bool
allows at_start (Head outcome optimum) = true
allows (at_value u) (Value w v last) = is_same u w
allows (at d) (Given k bare) = may_give d
allows (at d) Named = may_begin d
allows (at d) (Again n) = may_begin d
allows (at d) (Horizon k) = may_limit d
allows (at d) Stuck = may_end d
allows (at d) Goal = may_end d
allows (at d) (NoPlay k) = may_give_up d
allows (at d) Close = may_step d
allows (at d) (Bound x low high) = may_step d
allows (at d) (Reply bare) = may_step d
allows (at d) Empty = may_step d
allows (at d) Barred = may_step d
allows (at d) BestLeft = may_step d
allows (at d) Next = may_step d
allows (at d) (Chosen bare) = may_step d
allows (at d) (Branch x) = may_step d
allows (at d) (Range high) = may_range d
allows (at d) Dot = may_range d
allows (at d) Skip = may_skip d
allows (at d) LeftOpen = may_skip d
allows p i = false

abbrev pub one_less : ℕ → ℕ
one_less zero = zero
one_less (suc n) = n

-- how many branches are open after a piece, with so many before it
abbrev pub open_after : ℕ → Piece → ℕ
open_after n (Branch x) = suc n
open_after n Dot = one_less n
open_after n i = n

-- where a branch is open, its next case or the end of its cases; and else the text has ended
abbrev pub onward : ℕ → Place
onward zero = at Ended
onward (suc n) = at Case

-- after a tuple
abbrev pub due_after : Tuple → Due
due_after GivenTuple = Givens
due_after ReplyTuple = AfterStep
due_after ChosenTuple = Node

abbrev pub after_value : Tuple → Bool → Place
after_value u last = cond last (at (due_after u)) (at_value u)

-- after a piece, with so many branches open after it
abbrev pub place_after : ℕ → Piece → Place
place_after n (Head outcome optimum) = at Givens
place_after n (Given k bare) = after_value GivenTuple bare
place_after n (Reply bare) = after_value ReplyTuple bare
place_after n (Chosen bare) = after_value ChosenTuple bare
place_after n (Value u v last) = after_value u last
place_after n Named = at AfterName
place_after n (Horizon k) = at AfterHorizon
place_after n Stuck = onward n
place_after n Goal = onward n
place_after n (Again m) = onward n
place_after n (NoPlay k) = onward n
place_after n Close = at AfterStep
place_after n (Bound x low high) = at AfterStep
place_after n Empty = onward n
place_after n Barred = onward n
place_after n BestLeft = onward n
place_after n Next = at Node
place_after n (Branch x) = onward n
place_after n (Range high) = at AfterRange
place_after n Skip = onward n
place_after n LeftOpen = onward n
place_after n Dot = onward n

-- each piece may come where it comes, with so many branches open before the first
abbrev pub accepts : Place → ℕ → List Piece → Bool
accepts p n [] = true
accepts p n (i ∷ is) = allows p i && accepts (place_after (open_after n i) i) (open_after n i) is

abbrev pub end_place : Place → ℕ → List Piece → Place
end_place p n [] = p
end_place p n (i ∷ is) = end_place (place_after (open_after n i) i) (open_after n i) is

abbrev pub end_open : ℕ → List Piece → ℕ
end_open n [] = n
end_open n (i ∷ is) = end_open (open_after n i) is

-- and with the last of them the text ends
abbrev pub IsWhole : Place → ℕ → List Piece → Type 0
IsWhole p n is = (accepts p n is ≡ true) × (end_place p n is ≡ at Ended)
