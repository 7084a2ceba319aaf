use Rattle.std.proofs.Common.{◌<◌, length, arith}
use Rattle.std.proofs.lemmas.List.Edits.{map_over_more}
use Rattle.joins.specs.Columns.{emptied}
use Rattle.joins.proofs.columns.empty.Goals as goal

pub loop-k-preserved : goal.loop-k-preserved
loop-k-preserved c =
    let xs = c.args.columns.now.items in
    let in_range : c.loop-k.k < length xs = omega (arith, c.len-k-end.ensures, c.loop-k-test.true) in
    rw c.emptied.ensures (map_over_more emptied xs c.loop-k.columns.items c.loop-k.k c.index.result.now in_range c.loop-k.invariant c.index.ensures)
