use Rattle.std.proofs.Common.{◌≡◌, ◌<◌, ℕ, true}
use Rattle.prop_base.specs.Closed.{keeps_arg}
use Rattle.prop_element.specs.Extremes.{item_at}
use Rattle.prop_element.proofs.tables.columns_cut.Given as goal

abbrev pub invariant-loop-k : goal.invariant-loop-k
invariant-loop-k l = (j : ℕ) → j < l.k → keeps_arg l.rule l.store.box (item_at l.items j) ≡ true
