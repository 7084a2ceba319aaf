-- Which of a variable's values each case of a branch covers.
use Rattle.std.specs.Prelude.{ℕ, nat_lt, Bool, not, ◌&&◌, Option, Some, None, length, take, drop, set, filter, ℤ, int_le}
use Rattle.qc_model.specs.Domains.{Values, Box, is_none_left, has_value}

-- how many of the values that no earlier case covers: the first alone, or those up to the case's upper value
abbrev pub cover : Option ℤ → Values → ℕ
cover None vs = 1
cover (Some high) vs = length (filter (λ v. int_le v high) vs)

-- of the values that no earlier case covers, those that the case covers, and those that it leaves
abbrev pub covered : Option ℤ → Values → Values
covered upto vs = take (cover upto vs) vs

abbrev pub uncovered : Option ℤ → Values → Values
uncovered upto vs = drop (cover upto vs) vs

-- the case begins at a value; one with an upper value ends there, and covers two values at least
abbrev pub is_cover : Option ℤ → Values → Bool
is_cover None vs = not (is_none_left vs)
is_cover (Some high) vs = has_value vs high && nat_lt 1 (cover (Some high) vs)

-- x keeps these values
abbrev pub box_to : Box → ℕ → Values → Box
box_to box x vs = set box x vs
