-- What is answered of a play.
use Rattle.std.specs.Prelude.{◌≡◌, ℕ, Bool, true, false, List, ◌++◌, ⊤}
use Rattle.qc_play.specs.declared.fault.PlayFault.{PlayFault}
use Rattle.qc_play.specs.declared.fault.PlayFault.TheVariants.{Missing, NotAllowed, Memory}
use Rattle.qc_play.specs.Play.{Ending, at_goal, stuck_at, hopeless_at, missing_at, not_allowed_at, Play}
use Rattle.qc_play.specs.PlayText.{play_text, text_from}

-- the moves are in order as far as they were read
abbrev pub is_played : Ending → Bool
is_played (at_goal holds) = true
is_played (stuck_at i) = true
is_played (hopeless_at i) = true
is_played (missing_at i) = false
is_played (not_allowed_at i) = false

-- the play comes to its end, and this is its text
pub record IsTextOf (p : Play) (text : List ℕ) : Type 0 where
  pub played : is_played p.ending ≡ true
  pub text_is : text ≡ play_text p

-- why there is none
abbrev pub IsFaultOf : Play → PlayFault → Type 0
IsFaultOf p (Missing i) = p.ending ≡ missing_at i.0
IsFaultOf p (NotAllowed i) = p.ending ≡ not_allowed_at i.0
IsFaultOf p (Memory e) = ⊤

-- the play goes on from scope i to its end, and its text stands after the text before
pub record IsToldAfter (i : ℕ) (p : Play) (before after : List ℕ) : Type 0 where
  pub played : is_played p.ending ≡ true
  pub text_is : after ≡ before ++ text_from i p.turns p.ending p.left

-- memory was refused
abbrev pub IsWant : PlayFault → Type 0
IsWant (Missing i) = ⊥
IsWant (NotAllowed i) = ⊥
IsWant (Memory e) = ⊤
