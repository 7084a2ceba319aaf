use Rattle.std.proofs.Common.{◌≡◌, ◌+◌, ◌-◌, ◌/◌, ◌∙◌, ap, arith, rules}
use Rattle.std.proofs.lemmas.Int.{to_z-of_z}
use mir.Val.{SFits}
use mir.Syntax.{w64}
use Rattle.qc_model.specs.Domains.{values_left}
use Rattle.fd_store.specs.Held.{removal_need}
use Rattle.fd_store.specs.Places.{box_of}
use Rattle.fd_store.proofs.Cells.{base_fits, values_at}
use Rattle.fd_store.proofs.Needs.{IsSpan, takes_span, takes_no_span, need_some}
use Rattle.fd_store.proofs.table.Table.cut_span.Goals as goal

pub returns-then-a-e : goal.returns-then-a-e
returns-then-a-e c =
    let k = c.cell-cell.ensures in
    let t = c.args.self.now in
    let fits : SFits w64 c.cell-cell.result.base = base_fits t.words.items c.cell-cell.result k.right in
    let lo_fits : SFits w64 c.args.lo = search rules in
    let hi_fits : SFits w64 c.args.hi = search rules in
    let span : IsSpan c.cell-cell.result c.args.lo c.args.hi c.place_of-a.result c.end_of-e.result = record {
      from = c.place_of-a.ensures.from;
      most = c.end_of-e.ensures.most;
      low = simp to_z-of_z at c.place_of-a.ensures.places;
      high = simp to_z-of_z at c.end_of-e.ensures.places;
      least = simp to_z-of_z at c.place_of-a.ensures.value;
      greatest = simp to_z-of_z at c.end_of-e.ensures.value;
    } in
    takes_span t c.cut_places.new.self c.args.x c.cell-cell.result c.args.lo c.args.hi _ _ c.requires.var k.at span c.if-a-e.true c.cut_places.ensures

pub returns-else-a-e : goal.returns-else-a-e
returns-else-a-e c =
    let k = c.cell-cell.ensures in
    let t = c.args.self.now in
    let fits : SFits w64 c.cell-cell.result.base = base_fits t.words.items c.cell-cell.result k.right in
    let lo_fits : SFits w64 c.args.lo = search rules in
    let hi_fits : SFits w64 c.args.hi = search rules in
    let span : IsSpan c.cell-cell.result c.args.lo c.args.hi c.place_of-a.result c.end_of-e.result = record {
      from = c.place_of-a.ensures.from;
      most = c.end_of-e.ensures.most;
      low = simp to_z-of_z at c.place_of-a.ensures.places;
      high = simp to_z-of_z at c.end_of-e.ensures.places;
      least = simp to_z-of_z at c.place_of-a.ensures.value;
      greatest = simp to_z-of_z at c.end_of-e.ensures.value;
    } in
    takes_no_span t c.args.x c.cell-cell.result c.args.lo c.args.hi _ _ c.requires.sound c.requires.var k.at span c.if-a-e.false

pub cut_places-requires-clause-room : goal.cut_places-requires-clause-room
cut_places-requires-clause-room c =
    let k = c.cell-cell.ensures in
    let t = c.args.self.now in
    let fits : SFits w64 c.cell-cell.result.base = base_fits t.words.items c.cell-cell.result k.right in
    let lo_fits : SFits w64 c.args.lo = search rules in
    let hi_fits : SFits w64 c.args.hi = search rules in
    let span : IsSpan c.cell-cell.result c.args.lo c.args.hi c.place_of-a.result c.end_of-e.result = record {
      from = c.place_of-a.ensures.from;
      most = c.end_of-e.ensures.most;
      low = simp to_z-of_z at c.place_of-a.ensures.places;
      high = simp to_z-of_z at c.end_of-e.ensures.places;
      least = simp to_z-of_z at c.place_of-a.ensures.value;
      greatest = simp to_z-of_z at c.end_of-e.ensures.value;
    } in
    let need : removal_need (values_left (box_of t.words.items t.cells.items) c.args.x) c.args.lo c.args.hi ≡ (c.end_of-e.result - 1 - c.place_of-a.result) / 64 + 2 =
    ap (λ vs. removal_need vs c.args.lo c.args.hi) (values_at t.words.items t.cells.items c.args.x c.cell-cell.result c.requires.var k.at)
    ∙ need_some t.words.items c.cell-cell.result c.args.lo c.args.hi _ _ k.right span c.if-a-e.true in
    omega (arith, need, c.requires.room)
