use Rattle.std.proofs.Common.{◌∙◌, arith}
use Rattle.fd_store.proofs.MovedEnds.{place_count}
use Rattle.fd_store.proofs.table.Table.count.Goals as goal

pub returns : goal.returns
returns c =
    c.count_set.ensures
    ∙ place_count c.args.self.now.words.items c.as_slice.result.now c.args.cell c.args.a c.args.e c.as_slice.ensures.value c.requires.first (omega arith) c.requires.end c.requires.right.within
