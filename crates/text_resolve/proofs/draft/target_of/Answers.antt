use Rattle.std.proofs.Common.{arith, inl, inr}
use Rattle.text_resolve.proofs.Counted.{integer_below, boolean_below, aggregate_below}
use Rattle.text_resolve.proofs.draft.target_of.Goals as goal

pub overflow_cast-result : goal.overflow_cast-result
overflow_cast-result c = omega (arith, aggregate_below c.args.names.now.text.now c.args.names.now.items.now c.requires _ c.in-Some.meant c.in-Aggregate.q c.in-Some.ensures c.in-Aggregate.is)

pub overflow_cast-result-in-Integer : goal.overflow_cast-result-in-Integer
overflow_cast-result-in-Integer c = elim c.in-Integer.is [
  | inl e ↦ omega (arith, integer_below c.args.names.now.text.now c.args.names.now.items.now c.requires _ c.in-Some.meant c.in-Integer.x c.in-Some.ensures e)
  | inr e ↦ omega (arith, boolean_below c.args.names.now.text.now c.args.names.now.items.now c.requires _ c.in-Some.meant c.in-Integer.x c.in-Some.ensures e)
]
