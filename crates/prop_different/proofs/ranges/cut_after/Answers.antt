use Rattle.std.proofs.Common.{rules}
use Rattle.prop_different.proofs.ranges.cut_after.Goals as goal

pub overflow_cast-width : goal.overflow_cast-width
overflow_cast-width c = search rules

pub overflow_cast-hi : goal.overflow_cast-hi
overflow_cast-hi c = search rules

pub overflow_add-hi : goal.overflow_add-hi
overflow_add-hi c = search rules

pub overflow_sub-hi : goal.overflow_sub-hi
overflow_sub-hi c = search rules

pub returns-then-width-room-clause-some : goal.returns-then-width-room-clause-some
returns-then-width-room-clause-some c = search rules

pub returns-else-width-room-clause-none : goal.returns-else-width-room-clause-none
returns-else-width-room-clause-none c = search rules
