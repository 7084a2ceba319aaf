-- The order of the answers to a scope of the opponent.
use Rattle.std.specs.declared.cmp.Ordering.{Ordering}
use Rattle.std.specs.Ordering.{int_cmp}
use Rattle.std.specs.Cmp.Lexicographic.{slice_cmp}
use Rattle.qc_play.specs.declared.plan.PlanEntry.{PlanEntry}

-- the lexicographic order of the tuples
abbrev pub entry_order : PlanEntry → PlanEntry → Ordering
entry_order x y = slice_cmp int_cmp x.tuple y.tuple
