use Rattle.std.proofs.Common.{◌∙◌, sym, ap, rules}
use Rattle.std.proofs.lemmas.Int.{to_z-of_z}
use mir.Val.{SFits}
use mir.Syntax.{w64}
use Rattle.fd_store.specs.Held.{removal_need}
use Rattle.fd_store.proofs.Cells.{base_fits, values_at}
use Rattle.fd_store.proofs.Needs.{IsSpan, need_some, need_none}
use Rattle.fd_store.proofs.table.Table.need.Goals as goal

pub returns-then-a-e-clause-need : goal.returns-then-a-e-clause-need
returns-then-a-e-clause-need c =
    let k = c.cell-cell.ensures in
    let t = c.args.self.now in
    let fits : SFits w64 c.cell-cell.result.base = base_fits t.words.items c.cell-cell.result k.right in
    let lo_fits : SFits w64 c.args.lo = search rules in
    let hi_fits : SFits w64 c.args.hi = search rules in
    let span : IsSpan c.cell-cell.result c.args.lo c.args.hi c.place_of-a.result c.end_of-e.result = record {
      from = c.place_of-a.ensures.from;
      most = c.end_of-e.ensures.most;
      low = simp to_z-of_z at c.place_of-a.ensures.places;
      high = simp to_z-of_z at c.end_of-e.ensures.places;
      least = simp to_z-of_z at c.place_of-a.ensures.value;
      greatest = simp to_z-of_z at c.end_of-e.ensures.value;
    } in
    sym (ap (λ vs. removal_need vs c.args.lo c.args.hi) (values_at t.words.items t.cells.items c.args.x c.cell-cell.result c.requires.var k.at)
    ∙ need_some t.words.items c.cell-cell.result c.args.lo c.args.hi _ _ k.right span c.if-a-e.true)

pub returns-else-a-e-clause-need : goal.returns-else-a-e-clause-need
returns-else-a-e-clause-need c =
    let k = c.cell-cell.ensures in
    let t = c.args.self.now in
    let fits : SFits w64 c.cell-cell.result.base = base_fits t.words.items c.cell-cell.result k.right in
    let lo_fits : SFits w64 c.args.lo = search rules in
    let hi_fits : SFits w64 c.args.hi = search rules in
    let span : IsSpan c.cell-cell.result c.args.lo c.args.hi c.place_of-a.result c.end_of-e.result = record {
      from = c.place_of-a.ensures.from;
      most = c.end_of-e.ensures.most;
      low = simp to_z-of_z at c.place_of-a.ensures.places;
      high = simp to_z-of_z at c.end_of-e.ensures.places;
      least = simp to_z-of_z at c.place_of-a.ensures.value;
      greatest = simp to_z-of_z at c.end_of-e.ensures.value;
    } in
    sym (ap (λ vs. removal_need vs c.args.lo c.args.hi) (values_at t.words.items t.cells.items c.args.x c.cell-cell.result c.requires.var k.at)
    ∙ need_none t.words.items c.cell-cell.result c.args.lo c.args.hi _ _ k.right span c.if-a-e.false)
