-- The definitions at a few small stores, computed.
use Rattle.std.proofs.Common.{◌≡◌, refl, [], ◌∷◌, List}
use Rattle.std.specs.Prelude.{pos, negsuc, None, Some as One}
use Rattle.fd_store.specs.declared.answer.Removed.TheVariants.{Nothing, Emptied, Some}
use Rattle.fd_store.specs.declared.table.Cell.{Cell}
use Rattle.fd_store.specs.declared.table.Change.{Change}
use Rattle.fd_store.specs.Held.{removal, removal_need, past_box, least_of, greatest_of, values_from, values_up_to}
use Rattle.fd_store.specs.Places.{cell_values}
use Rattle.fd_store.specs.Trail.{held}

-- the values -1 to 3 with the bits 0, 2 and 3 set, and the same from the place 2 on
abbrev whole : Cell
whole = record { base = negsuc 0; start = 0; width = 5; first = 0; end = 4; size = 3 }

abbrev raised : Cell
raised = record { base = negsuc 0; start = 0; width = 5; first = 2; end = 4; size = 2 }

values_are : cell_values (13 ∷ []) whole ≡ negsuc 0 ∷ pos 1 ∷ pos 2 ∷ []
values_are = refl

-- a bit outside of the ends doesn't count
ends_count : cell_values (13 ∷ []) raised ≡ pos 1 ∷ pos 2 ∷ []
ends_count = refl

-- the box before the change is the past box at 0, and at the trail's length it is the box itself
abbrev changes : List Change
changes = record { bits = 0; word = 18446744073709551615; var = 0; cell = whole } ∷ []

past_is_old : past_box (held (13 ∷ []) (raised ∷ []) changes 0) 0 ≡ (negsuc 0 ∷ pos 1 ∷ pos 2 ∷ []) ∷ []
past_is_old = refl

past_is_now : past_box (held (13 ∷ []) (raised ∷ []) changes 0) 1 ≡ (pos 1 ∷ pos 2 ∷ []) ∷ []
past_is_now = refl

-- what removals answer, and what they need
none_went : removal [] (pos 1 ∷ []) ≡ Nothing
none_went = refl

all_went : removal (pos 1 ∷ pos 2 ∷ []) [] ≡ Emptied
all_went = refl

some_went : removal (pos 1 ∷ []) (pos 2 ∷ []) ≡ Some
some_went = refl

need_within : removal_need (pos 1 ∷ pos 3 ∷ pos 70 ∷ []) (negsuc 9) (pos 100) ≡ 3
need_within = refl

need_beside : removal_need (pos 1 ∷ pos 3 ∷ pos 70 ∷ []) (pos 71) (pos 100) ≡ 0
need_beside = refl

next_up : least_of (values_from (pos 2) (pos 1 ∷ pos 3 ∷ pos 70 ∷ [])) ≡ One (pos 3)
next_up = refl

next_down : greatest_of (values_up_to (pos 0) (pos 1 ∷ pos 3 ∷ pos 70 ∷ [])) ≡ None
next_down = refl
