-- What the refuter goes by: the arguments with what is left to them, and what is known of that.
use Rattle.std.specs.Prelude.{Bool, not, ◌&&◌, nat_le, int_le, List, map, length}
use Rattle.std.specs.List.{list_all}
use Rattle.qc_model.specs.declared.problem.Arg.{Arg}
use Rattle.qc_model.specs.declared.problem.Argument.{Argument}
use Rattle.qc_model.specs.declared.problem.Argument.TheVariants.{One, Many, Numbers, Members}
use Rattle.qc_model.specs.Arguments.{fill}
use Rattle.qc_model.specs.Domains.{Values, Box, box_within, is_none_left, is_ascending, least_value, greatest_value}
use Rattle.qc_model.specs.Left.{Lefts}
use Rattle.qc_model.specs.Refuted.{left_to}
use Rattle.qc_model.specs.Valid.{is_number, is_set}
use Rattle.qc_refuter.specs.declared.shown.View.{View}

-- the box that a view shows
abbrev pub seen : View → Box
seen v = box_within v.store.now.box v.x.0 v.lo v.hi

abbrev pub lefts : Box → List Argument → Lefts
lefts box args = map (fill (left_to box)) args

-- some values, ascending, within the number limit
abbrev pub is_domain_left : Values → Bool
is_domain_left vs = (not (is_none_left vs) && is_ascending vs) && list_all is_number vs

abbrev pub is_open : Box → Arg → Bool
is_open box a = is_domain_left (left_to box a)

-- an array has few items, numbers are within the limit, and a set is in order
abbrev pub is_met : Box → Argument → Bool
is_met box (One a) = is_open box a
is_met box (Many items) = nat_le (length items) 1000 && list_all (is_open box) items
is_met box (Numbers ns) = list_all is_number ns
is_met box (Members s) = is_set s

abbrev pub are_met : Box → List Argument → Bool
are_met box args = list_all (is_met box) args

-- from the least value of the first to the greatest of the last
abbrev pub is_inside : Values → Values → Values → Bool
is_inside first last d = int_le (least_value first) (least_value d) && int_le (greatest_value d) (greatest_value last)
