use Rattle.std.proofs.Common.{◌≤◌, sym, subst}
use Rattle.qc_model.specs.Domains.{Values}
use Rattle.fd_store.specs.Held.{removal_need}
use Rattle.fd_store.proofs.Cells.{values_at}
use Rattle.fd_store.proofs.Needs.{need_few}
use Rattle.fd_store.proofs.table.Table.need_known.Goals as goal

pub returns : goal.returns
returns c = λ lo hi.
    let t = c.args.self.now in
    let k = c.cell-cell.ensures in
    subst (λ (vs : Values). removal_need vs lo hi ≤ 16400) (sym (values_at t.words.items t.cells.items c.args.x c.cell-cell.result c.requires.var k.at)) (need_few t.words.items c.cell-cell.result lo hi k.right)
