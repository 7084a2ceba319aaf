use Rattle.std.proofs.Common.{◌<◌, length, arith}
use Rattle.std.proofs.lemmas.List.Edits.{map_over_more}
use Rattle.joins.specs.Columns.{with_vector}
use Rattle.joins.proofs.columns.add_vector.Goals as goal

pub loop-k-preserved : goal.loop-k-preserved
loop-k-preserved c =
    let xs = c.args.columns.now.items in
    let in_range : c.loop-k.k < length xs = omega (arith, c.len-k-end.ensures, c.loop-k-test.true) in
    rw c.with_vector.ensures (map_over_more (with_vector c.args.has_any c.args.vector.now) xs c.loop-k.columns.items c.loop-k.k c.index.result.now in_range c.loop-k.invariant c.index.ensures)
