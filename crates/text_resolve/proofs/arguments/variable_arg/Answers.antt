use Rattle.std.proofs.Common.{arith, inl, inr}
use Rattle.text_resolve.proofs.Counted.{integer_below, boolean_below}
use Rattle.text_resolve.proofs.arguments.variable_arg.Goals as goal

pub overflow_cast-result : goal.overflow_cast-result
overflow_cast-result c = elim c.in-Integer.is [
  | inl e ↦ omega (arith, integer_below c.args.names.now.text.now c.args.names.now.items.now c.requires _ c.in-Some.meant c.in-Integer.x c.in-Some.ensures e)
  | inr e ↦ omega (arith, boolean_below c.args.names.now.text.now c.args.names.now.items.now c.requires _ c.in-Some.meant c.in-Integer.x c.in-Some.ensures e)
]
