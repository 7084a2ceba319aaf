use Rattle.std.proofs.Common.{arith}
use Rattle.paged_stack.proofs.Packing.{packed_bounds}
use Rattle.paged_stack.proofs.stack.PagedStack.spare.Goals as goal

pub overflow_sub-result : goal.overflow_sub-result
overflow_sub-result g c = omega (arith, c.len.ensures.0, c.len-2.ensures.0, c.self.invariant.1, (packed_bounds c.self.inside.used c.self.invariant.0).0)
