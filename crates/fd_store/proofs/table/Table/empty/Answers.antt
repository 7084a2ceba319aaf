use Rattle.std.proofs.Common.{◌∙◌}
use Rattle.fd_store.proofs.EndMoves.{takes_emptied}
use Rattle.std.proofs.lemmas.Int.{to_z-of_z}
use mir.Val.{SFits}
use mir.Syntax.{w64}
use Rattle.fd_store.proofs.Cells.{base_fits, recorded}
use Rattle.fd_store.proofs.table.Table.empty.Goals as goal

pub returns-clause-takes : goal.returns-clause-takes
returns-clause-takes c =
    let q = c.requires in
    let r = c.replace.ensures in
    let fits : SFits w64 c.args.cell.base = base_fits c.args.self.now.words.items c.args.cell q.right in
    let cells = simp to_z-of_z at r.cells in
    takes_emptied c.args.self.now c.replace.new.self c.args.x c.args.cell q.sound q.var q.at q.right q.few q.some r.words cells (r.trail ∙ recorded c.args.self.now.trail.items 0 18446744073709551615 c.args.x c.args.self.now.cells.items c.args.cell _ q.var q.at) r.spare
