-- What the evaluation of a constraint goes by: its arguments with their values, and what is known of them.
use Rattle.std.specs.Prelude.{nat_le, Bool, false, ◌&&◌, List, map, length, ℤ, Option, Some, None}
use Rattle.std.specs.Ordering.{int_eq}
use Rattle.std.specs.List.{list_all}
use Rattle.qc_model.specs.declared.problem.Argument.{Argument}
use Rattle.qc_model.specs.declared.problem.Argument.TheVariants.{One, Many, Numbers, Members}
use Rattle.qc_model.specs.declared.problem.Arg.{Arg}
use Rattle.qc_model.specs.Arguments.{fill}
use Rattle.qc_model.specs.Holds.{Given, arg_value}
use Rattle.qc_model.specs.Valid.{is_number, is_set}

-- there is an item, and it is c
abbrev pub is_some_item : ℤ → Option ℤ → Bool
is_some_item c None = false
is_some_item c (Some x) = int_eq x c

-- the arguments with their values
abbrev pub given : List ℤ → List Argument → Given
given vs args = map (fill (arg_value vs)) args

abbrev pub item_values : List ℤ → List Arg → List ℤ
item_values vs items = map (arg_value vs) items

-- values and numbers are within the number limit, an array has few items, and a set is in order
abbrev pub is_readable : List ℤ → Argument → Bool
is_readable vs (One a) = is_number (arg_value vs a)
is_readable vs (Many items) = nat_le (length items) 1000 && list_all is_number (item_values vs items)
is_readable vs (Numbers ns) = list_all is_number ns
is_readable vs (Members s) = is_set s

abbrev pub are_readable : List ℤ → List Argument → Bool
are_readable vs args = list_all (is_readable vs) args
