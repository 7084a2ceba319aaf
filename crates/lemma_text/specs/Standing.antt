-- What bytes come to that are read one by one.
use Rattle.std.specs.Prelude.{ℕ, List, [], ◌∷◌, ◌++◌}
use Rattle.lemma_text.specs.declared.item.Item.{Item}
use Rattle.lemma_text.specs.States.{State, Next, more, whole, wrong, next, state_at, at_start, place_after}

-- the whole pieces, and what is read of another; or no text goes on so
pub data Standing : Type 0 where
  going : List Item → State → Standing
  no_text : Standing

abbrev pub moved : List Item → Next → Standing
moved told (more s) = going told s
moved told (whole i) = going (told ++ i ∷ []) (state_at (place_after i))
moved told wrong = no_text

abbrev pub next_standing : Standing → ℕ → Standing
next_standing (going told s) b = moved told (next s b)
next_standing no_text b = no_text

abbrev pub standing_from : Standing → List ℕ → Standing
standing_from s [] = s
standing_from s (b ∷ bs) = standing_from (next_standing s b) bs

abbrev pub standing : List ℕ → Standing
standing bytes = standing_from (going [] (state_at at_start)) bytes
