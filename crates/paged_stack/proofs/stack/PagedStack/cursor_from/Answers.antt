use Rattle.std.proofs.Common.{ap, length, arith}
use lib.ListN.{length-map}
use Rattle.paged_stack.specs.Leaves.{items_of}
use Rattle.paged_stack.proofs.Packing.{page_in}
use Rattle.paged_stack.proofs.stack.PagedStack.cursor_from.Goals as goal

pub find-at-requires : goal.find-at-requires
find-at-requires g c =
    let nodes = c.nodes-nodes.result.now in
    let among = page_in c.self.inside.used c.args.k c.self.invariant.0 (omega (arith, c.self.invariant.1, c.if-k-self.true)) in
    omega (arith, among, ap length c.nodes-nodes.ensures, length-map nodes.items items_of, nodes.ok.0)
