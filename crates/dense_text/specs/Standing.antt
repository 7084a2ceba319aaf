-- What bytes come to that are read one by one.
use Rattle.std.specs.Prelude.{ℕ, List, [], ◌∷◌, ◌++◌}
use Rattle.dense_text.specs.declared.piece.Piece.{Piece}
use Rattle.dense_text.specs.Grammar.{at_start, open_after, place_after}
use Rattle.dense_text.specs.States.{State, After, more, whole, wrong, next, state_at}

-- the whole pieces, how many branches are open after them, and what is read of another piece; or no text goes on so
pub data Standing : Type 0 where
  going : List Piece → ℕ → State → Standing
  no_text : Standing

abbrev pub moved : List Piece → ℕ → After → Standing
moved told n (more s) = going told n s
moved told n (whole i) = going (told ++ i ∷ []) (open_after n i) (state_at (place_after (open_after n i) i))
moved told n wrong = no_text

abbrev pub next_standing : Standing → ℕ → Standing
next_standing (going told n s) b = moved told n (next s b)
next_standing no_text b = no_text

abbrev pub standing_from : Standing → List ℕ → Standing
standing_from s [] = s
standing_from s (b ∷ bs) = standing_from (next_standing s b) bs

abbrev pub standing : List ℕ → Standing
standing bytes = standing_from (going [] 0 (state_at at_start)) bytes
