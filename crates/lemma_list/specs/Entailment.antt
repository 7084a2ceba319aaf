-- When a box entails a constraint: each of its values satisfies it.
use Rattle.std.specs.Prelude.{Bool, true, false, not, ◌&&◌, ◌||◌, List, [], ◌∷◌, map, ℤ, pos, ◌+ℤ◌}
use Rattle.std.specs.List.{list_all}
use Rattle.qc_model.specs.Content.{Rule}
use Rattle.qc_model.specs.Domains.{Values, Box, is_single}
use Rattle.qc_model.specs.Arguments.{Filled, filled_one, filled_many, filled_numbers, filled_members, fill}
use Rattle.qc_model.specs.Meaning.{Meaning, variable_element, meaning_of}
use Rattle.qc_model.specs.Left.{Lefts, left_at, lefts_at, is_only, are_one_value}
use Rattle.qc_model.specs.Refuted.{refuted_as, left_to}
use Rattle.qc_model.specs.Entailed.{entailed_as}

-- one value is left to the argument, or to each item of it
abbrev pub is_settled : Filled Values → Bool
is_settled (filled_one d) = is_single d
is_settled (filled_many ds) = list_all is_single ds
is_settled (filled_numbers ns) = true
is_settled (filled_members s) = true

-- the place of some item, counted from k, is the one value of b, and the item and c have one value, the same
abbrev pub is_picked : ℤ → Values → List Values → Values → Bool
is_picked k b [] c = false
is_picked k b (d ∷ ds) c = (is_only k b && are_one_value d c) || is_picked (k +ℤ pos 1) b ds c

-- an element by the item that its index picks, whatever the other items are
abbrev pub entailed_by_index : Meaning → Lefts → Bool
entailed_by_index variable_element args = is_picked (pos 1) (left_at args 0) (lefts_at args 1) (left_at args 2)
entailed_by_index _ args = false

-- by the table of predicates; an element, by its index; and where all arguments are settled, by not being refuted
abbrev pub is_entailed : Meaning → Lefts → Bool
is_entailed m args =
    (entailed_as m args || entailed_by_index m args) || (list_all is_settled args && not (refuted_as m args))

abbrev pub entailed_by : Rule → Box → Bool
entailed_by c box = is_entailed (meaning_of c.pred) (map (fill (left_to box)) c.args)
