use Rattle.std.proofs.Common.{◌≡◌, refl, length}
use Rattle.std.specs.Prelude.{pos, ◌+ℤ◌, ◌-ℤ◌}
use Rattle.std.proofs.Math.Nat.{le_refl}
use Rattle.std.proofs.lemmas.Int.{to_z-of_z}
use mir.Val.{SFits}
use mir.Syntax.{w64}
use Rattle.qc_model.specs.Domains.{values_left}
use Rattle.fd_store.specs.Takes.{box_in}
use Rattle.fd_store.proofs.AtEnds.{is_small, last_fits, hi_first, low_places, high_places, place_fits, none_below, none_above, some_room, nothing_removed, fewer_removed}
use Rattle.fd_store.proofs.Cells.{base_fits}
use Rattle.fd_store.proofs.CutEnds.{lo_among, among_from, among_below}
use Rattle.fd_store.proofs.Needs.{takes_span, takes_no_span}
use Rattle.fd_store.proofs.table.Table.cut.Goals as goal

pub value_at-least-requires-clause-narrow : goal.value_at-least-requires-clause-narrow
value_at-least-requires-clause-narrow c =
    (is_small c.args.self.now.words.items c.cell-cell.result c.cell-cell.ensures.right).first

pub value_at-least-requires-clause-low : goal.value_at-least-requires-clause-low
value_at-least-requires-clause-low c =
    let t = c.args.self.now in
    let k = c.cell-cell.ensures in
    let cell = c.cell-cell.result in
    let fits : SFits w64 c.cell-cell.result.base = base_fits t.words.items cell k.right in
    simp to_z-of_z (is_small t.words.items cell k.right).low

pub value_at-least-requires-clause-high : goal.value_at-least-requires-clause-high
value_at-least-requires-clause-high c =
    let t = c.args.self.now in
    let k = c.cell-cell.ensures in
    let cell = c.cell-cell.result in
    let fits : SFits w64 c.cell-cell.result.base = base_fits t.words.items cell k.right in
    simp to_z-of_z (is_small t.words.items cell k.right).high

pub value_at-past-requires-clause-narrow : goal.value_at-past-requires-clause-narrow
value_at-past-requires-clause-narrow c =
    (is_small c.args.self.now.words.items c.cell-cell.result c.cell-cell.ensures.right).end

pub value_at-past-requires-clause-low : goal.value_at-past-requires-clause-low
value_at-past-requires-clause-low c =
    let t = c.args.self.now in
    let k = c.cell-cell.ensures in
    let cell = c.cell-cell.result in
    let fits : SFits w64 c.cell-cell.result.base = base_fits t.words.items cell k.right in
    simp to_z-of_z (is_small t.words.items cell k.right).low

pub value_at-past-requires-clause-high : goal.value_at-past-requires-clause-high
value_at-past-requires-clause-high c =
    let t = c.args.self.now in
    let k = c.cell-cell.ensures in
    let cell = c.cell-cell.result in
    let fits : SFits w64 c.cell-cell.result.base = base_fits t.words.items cell k.right in
    simp to_z-of_z (is_small t.words.items cell k.right).high

pub overflow_sub-past : goal.overflow_sub-past
overflow_sub-past c =
    let t = c.args.self.now in
    let k = c.cell-cell.ensures in
    let cell = c.cell-cell.result in
    let fits : SFits w64 c.cell-cell.result.base = base_fits t.words.items cell k.right in
    let past_fits : SFits w64 c.value_at-past.result = record { sfits = c.value_at-past.type_inv } in
    let past : c.value_at-past.result ≡ cell.base +ℤ pos cell.end = simp to_z-of_z at c.value_at-past.ensures in
    simp to_z-of_z (last_fits cell c.value_at-past.result (is_small t.words.items cell k.right) past)

pub overflow_sub-past-else-lo-least : goal.overflow_sub-past-else-lo-least
overflow_sub-past-else-lo-least c =
    let t = c.args.self.now in
    let k = c.cell-cell.ensures in
    let cell = c.cell-cell.result in
    let fits : SFits w64 c.cell-cell.result.base = base_fits t.words.items cell k.right in
    let past_fits : SFits w64 c.value_at-past.result = record { sfits = c.value_at-past.type_inv } in
    let past : c.value_at-past.result ≡ cell.base +ℤ pos cell.end = simp to_z-of_z at c.value_at-past.ensures in
    simp to_z-of_z (last_fits cell c.value_at-past.result (is_small t.words.items cell k.right) past)

pub offset_of-requires-clause-low : goal.offset_of-requires-clause-low
offset_of-requires-clause-low c =
    let t = c.args.self.now in
    let k = c.cell-cell.ensures in
    let cell = c.cell-cell.result in
    let fits : SFits w64 c.cell-cell.result.base = base_fits t.words.items cell k.right in
    simp to_z-of_z (is_small t.words.items cell k.right).low

pub offset_of-requires-clause-high : goal.offset_of-requires-clause-high
offset_of-requires-clause-high c =
    let t = c.args.self.now in
    let k = c.cell-cell.ensures in
    let cell = c.cell-cell.result in
    let fits : SFits w64 c.cell-cell.result.base = base_fits t.words.items cell k.right in
    simp to_z-of_z (is_small t.words.items cell k.right).high

pub offset_of-requires-clause-from : goal.offset_of-requires-clause-from
offset_of-requires-clause-from c =
    let t = c.args.self.now in
    let k = c.cell-cell.ensures in
    let cell = c.cell-cell.result in
    let fits : SFits w64 c.cell-cell.result.base = base_fits t.words.items cell k.right in
    let lo_fits : SFits w64 c.args.lo = c.ranges.lo in
    let hi_fits : SFits w64 c.args.hi = c.ranges.hi in
    let least_fits : SFits w64 c.value_at-least.result = record { sfits = c.value_at-least.type_inv } in
    let past_fits : SFits w64 c.value_at-past.result = record { sfits = c.value_at-past.type_inv } in
    let least : c.value_at-least.result ≡ cell.base +ℤ pos cell.first = simp to_z-of_z at c.value_at-least.ensures in
    let past : c.value_at-past.result ≡ cell.base +ℤ pos cell.end = simp to_z-of_z at c.value_at-past.ensures in
    let before_past : SFits w64 (c.value_at-past.result -ℤ pos 1) = last_fits cell c.value_at-past.result (is_small t.words.items cell k.right) past in
    let among = hi_first cell.base c.args.hi c.value_at-least.result c.value_at-past.result cell.first cell.end least (simp to_z-of_z at c.if-hi-least.false) past (simp to_z-of_z at c.if-hi-past.true) in
    simp to_z-of_z (among_from cell.base c.args.hi cell.first cell.end among)

pub offset_of-requires-clause-below : goal.offset_of-requires-clause-below
offset_of-requires-clause-below c =
    let t = c.args.self.now in
    let k = c.cell-cell.ensures in
    let cell = c.cell-cell.result in
    let fits : SFits w64 c.cell-cell.result.base = base_fits t.words.items cell k.right in
    let lo_fits : SFits w64 c.args.lo = c.ranges.lo in
    let hi_fits : SFits w64 c.args.hi = c.ranges.hi in
    let least_fits : SFits w64 c.value_at-least.result = record { sfits = c.value_at-least.type_inv } in
    let past_fits : SFits w64 c.value_at-past.result = record { sfits = c.value_at-past.type_inv } in
    let least : c.value_at-least.result ≡ cell.base +ℤ pos cell.first = simp to_z-of_z at c.value_at-least.ensures in
    let past : c.value_at-past.result ≡ cell.base +ℤ pos cell.end = simp to_z-of_z at c.value_at-past.ensures in
    let before_past : SFits w64 (c.value_at-past.result -ℤ pos 1) = last_fits cell c.value_at-past.result (is_small t.words.items cell k.right) past in
    let among = hi_first cell.base c.args.hi c.value_at-least.result c.value_at-past.result cell.first cell.end least (simp to_z-of_z at c.if-hi-least.false) past (simp to_z-of_z at c.if-hi-past.true) in
    simp to_z-of_z (among_below cell.base c.args.hi cell.first cell.end (is_small t.words.items cell k.right).end among)

pub offset_of-requires-then-hi-past-2-clause-low : goal.offset_of-requires-then-hi-past-2-clause-low
offset_of-requires-then-hi-past-2-clause-low c =
    let t = c.args.self.now in
    let k = c.cell-cell.ensures in
    let cell = c.cell-cell.result in
    let fits : SFits w64 c.cell-cell.result.base = base_fits t.words.items cell k.right in
    simp to_z-of_z (is_small t.words.items cell k.right).low

pub offset_of-requires-then-hi-past-2-clause-high : goal.offset_of-requires-then-hi-past-2-clause-high
offset_of-requires-then-hi-past-2-clause-high c =
    let t = c.args.self.now in
    let k = c.cell-cell.ensures in
    let cell = c.cell-cell.result in
    let fits : SFits w64 c.cell-cell.result.base = base_fits t.words.items cell k.right in
    simp to_z-of_z (is_small t.words.items cell k.right).high

pub offset_of-requires-then-hi-past-2-clause-from : goal.offset_of-requires-then-hi-past-2-clause-from
offset_of-requires-then-hi-past-2-clause-from c =
    let t = c.args.self.now in
    let k = c.cell-cell.ensures in
    let cell = c.cell-cell.result in
    let fits : SFits w64 c.cell-cell.result.base = base_fits t.words.items cell k.right in
    let lo_fits : SFits w64 c.args.lo = c.ranges.lo in
    let hi_fits : SFits w64 c.args.hi = c.ranges.hi in
    let least_fits : SFits w64 c.value_at-least.result = record { sfits = c.value_at-least.type_inv } in
    let past_fits : SFits w64 c.value_at-past.result = record { sfits = c.value_at-past.type_inv } in
    let least : c.value_at-least.result ≡ cell.base +ℤ pos cell.first = simp to_z-of_z at c.value_at-least.ensures in
    let past : c.value_at-past.result ≡ cell.base +ℤ pos cell.end = simp to_z-of_z at c.value_at-past.ensures in
    let before_past : SFits w64 (c.value_at-past.result -ℤ pos 1) = last_fits cell c.value_at-past.result (is_small t.words.items cell k.right) past in
    let among = lo_among cell.base c.args.lo c.value_at-least.result c.value_at-past.result cell.first cell.end least (simp to_z-of_z at c.if-lo-least.false) past (simp to_z-of_z at c.if-lo-past.false) in
    simp to_z-of_z (among_from cell.base c.args.lo cell.first cell.end among)

pub offset_of-requires-then-hi-past-2-clause-below : goal.offset_of-requires-then-hi-past-2-clause-below
offset_of-requires-then-hi-past-2-clause-below c =
    let t = c.args.self.now in
    let k = c.cell-cell.ensures in
    let cell = c.cell-cell.result in
    let fits : SFits w64 c.cell-cell.result.base = base_fits t.words.items cell k.right in
    let lo_fits : SFits w64 c.args.lo = c.ranges.lo in
    let hi_fits : SFits w64 c.args.hi = c.ranges.hi in
    let least_fits : SFits w64 c.value_at-least.result = record { sfits = c.value_at-least.type_inv } in
    let past_fits : SFits w64 c.value_at-past.result = record { sfits = c.value_at-past.type_inv } in
    let least : c.value_at-least.result ≡ cell.base +ℤ pos cell.first = simp to_z-of_z at c.value_at-least.ensures in
    let past : c.value_at-past.result ≡ cell.base +ℤ pos cell.end = simp to_z-of_z at c.value_at-past.ensures in
    let before_past : SFits w64 (c.value_at-past.result -ℤ pos 1) = last_fits cell c.value_at-past.result (is_small t.words.items cell k.right) past in
    let among = lo_among cell.base c.args.lo c.value_at-least.result c.value_at-past.result cell.first cell.end least (simp to_z-of_z at c.if-lo-least.false) past (simp to_z-of_z at c.if-lo-past.false) in
    simp to_z-of_z (among_below cell.base c.args.lo cell.first cell.end (is_small t.words.items cell k.right).end among)

pub overflow_add-offset_of : goal.overflow_add-offset_of
overflow_add-offset_of c =
    let t = c.args.self.now in
    let k = c.cell-cell.ensures in
    let cell = c.cell-cell.result in
    let fits : SFits w64 c.cell-cell.result.base = base_fits t.words.items cell k.right in
    let lo_fits : SFits w64 c.args.lo = c.ranges.lo in
    let hi_fits : SFits w64 c.args.hi = c.ranges.hi in
    let least_fits : SFits w64 c.value_at-least.result = record { sfits = c.value_at-least.type_inv } in
    let past_fits : SFits w64 c.value_at-past.result = record { sfits = c.value_at-past.type_inv } in
    let least : c.value_at-least.result ≡ cell.base +ℤ pos cell.first = simp to_z-of_z at c.value_at-least.ensures in
    let past : c.value_at-past.result ≡ cell.base +ℤ pos cell.end = simp to_z-of_z at c.value_at-past.ensures in
    let before_past : SFits w64 (c.value_at-past.result -ℤ pos 1) = last_fits cell c.value_at-past.result (is_small t.words.items cell k.right) past in
    let low = low_places cell c.args.lo c.args.hi c.value_at-least.result c.value_at-past.result c.offset_of.result least past (simp to_z-of_z at c.if-lo-least.true) (simp to_z-of_z at c.if-hi-least.false) (simp to_z-of_z at c.if-hi-past.true) (simp to_z-of_z at c.offset_of.ensures) in
    record { fits = place_fits cell c.offset_of.result (is_small t.words.items cell k.right) low.stay }

pub move_first-requires-clause-low : goal.move_first-requires-clause-low
move_first-requires-clause-low c =
    let t = c.args.self.now in
    let k = c.cell-cell.ensures in
    let cell = c.cell-cell.result in
    let fits : SFits w64 c.cell-cell.result.base = base_fits t.words.items cell k.right in
    let lo_fits : SFits w64 c.args.lo = c.ranges.lo in
    let hi_fits : SFits w64 c.args.hi = c.ranges.hi in
    let least_fits : SFits w64 c.value_at-least.result = record { sfits = c.value_at-least.type_inv } in
    let past_fits : SFits w64 c.value_at-past.result = record { sfits = c.value_at-past.type_inv } in
    let least : c.value_at-least.result ≡ cell.base +ℤ pos cell.first = simp to_z-of_z at c.value_at-least.ensures in
    let past : c.value_at-past.result ≡ cell.base +ℤ pos cell.end = simp to_z-of_z at c.value_at-past.ensures in
    let before_past : SFits w64 (c.value_at-past.result -ℤ pos 1) = last_fits cell c.value_at-past.result (is_small t.words.items cell k.right) past in
    let low = low_places cell c.args.lo c.args.hi c.value_at-least.result c.value_at-past.result c.offset_of.result least past (simp to_z-of_z at c.if-lo-least.true) (simp to_z-of_z at c.if-hi-least.false) (simp to_z-of_z at c.if-hi-past.true) (simp to_z-of_z at c.offset_of.ensures) in
    low.some

pub move_first-requires-clause-high : goal.move_first-requires-clause-high
move_first-requires-clause-high c =
    let t = c.args.self.now in
    let k = c.cell-cell.ensures in
    let cell = c.cell-cell.result in
    let fits : SFits w64 c.cell-cell.result.base = base_fits t.words.items cell k.right in
    let lo_fits : SFits w64 c.args.lo = c.ranges.lo in
    let hi_fits : SFits w64 c.args.hi = c.ranges.hi in
    let least_fits : SFits w64 c.value_at-least.result = record { sfits = c.value_at-least.type_inv } in
    let past_fits : SFits w64 c.value_at-past.result = record { sfits = c.value_at-past.type_inv } in
    let least : c.value_at-least.result ≡ cell.base +ℤ pos cell.first = simp to_z-of_z at c.value_at-least.ensures in
    let past : c.value_at-past.result ≡ cell.base +ℤ pos cell.end = simp to_z-of_z at c.value_at-past.ensures in
    let before_past : SFits w64 (c.value_at-past.result -ℤ pos 1) = last_fits cell c.value_at-past.result (is_small t.words.items cell k.right) past in
    let low = low_places cell c.args.lo c.args.hi c.value_at-least.result c.value_at-past.result c.offset_of.result least past (simp to_z-of_z at c.if-lo-least.true) (simp to_z-of_z at c.if-hi-least.false) (simp to_z-of_z at c.if-hi-past.true) (simp to_z-of_z at c.offset_of.ensures) in
    low.stay

pub move_first-requires-clause-room : goal.move_first-requires-clause-room
move_first-requires-clause-room c =
    let t = c.args.self.now in
    let k = c.cell-cell.ensures in
    let cell = c.cell-cell.result in
    let fits : SFits w64 c.cell-cell.result.base = base_fits t.words.items cell k.right in
    let lo_fits : SFits w64 c.args.lo = c.ranges.lo in
    let hi_fits : SFits w64 c.args.hi = c.ranges.hi in
    let least_fits : SFits w64 c.value_at-least.result = record { sfits = c.value_at-least.type_inv } in
    let past_fits : SFits w64 c.value_at-past.result = record { sfits = c.value_at-past.type_inv } in
    let least : c.value_at-least.result ≡ cell.base +ℤ pos cell.first = simp to_z-of_z at c.value_at-least.ensures in
    let past : c.value_at-past.result ≡ cell.base +ℤ pos cell.end = simp to_z-of_z at c.value_at-past.ensures in
    let before_past : SFits w64 (c.value_at-past.result -ℤ pos 1) = last_fits cell c.value_at-past.result (is_small t.words.items cell k.right) past in
    let low = low_places cell c.args.lo c.args.hi c.value_at-least.result c.value_at-past.result c.offset_of.result least past (simp to_z-of_z at c.if-lo-least.true) (simp to_z-of_z at c.if-hi-least.false) (simp to_z-of_z at c.if-hi-past.true) (simp to_z-of_z at c.offset_of.ensures) in
    some_room t c.args.x cell c.args.lo c.args.hi _ _ _ c.requires.var k.at k.right low.span low.some c.requires.room

pub move_end-requires-clause-low : goal.move_end-requires-clause-low
move_end-requires-clause-low c =
    let t = c.args.self.now in
    let k = c.cell-cell.ensures in
    let cell = c.cell-cell.result in
    let fits : SFits w64 c.cell-cell.result.base = base_fits t.words.items cell k.right in
    let lo_fits : SFits w64 c.args.lo = c.ranges.lo in
    let hi_fits : SFits w64 c.args.hi = c.ranges.hi in
    let least_fits : SFits w64 c.value_at-least.result = record { sfits = c.value_at-least.type_inv } in
    let past_fits : SFits w64 c.value_at-past.result = record { sfits = c.value_at-past.type_inv } in
    let least : c.value_at-least.result ≡ cell.base +ℤ pos cell.first = simp to_z-of_z at c.value_at-least.ensures in
    let past : c.value_at-past.result ≡ cell.base +ℤ pos cell.end = simp to_z-of_z at c.value_at-past.ensures in
    let before_past : SFits w64 (c.value_at-past.result -ℤ pos 1) = last_fits cell c.value_at-past.result (is_small t.words.items cell k.right) past in
    let high = high_places cell c.args.lo c.args.hi c.value_at-least.result c.value_at-past.result c.offset_of-then-hi-past-2.result least past (simp to_z-of_z at c.if-lo-least.false) (simp to_z-of_z at c.if-hi-past-2.true) (simp to_z-of_z at c.if-lo-past.false) (simp to_z-of_z at c.offset_of-then-hi-past-2.ensures) in
    high.stay

pub move_end-requires-clause-high : goal.move_end-requires-clause-high
move_end-requires-clause-high c =
    let t = c.args.self.now in
    let k = c.cell-cell.ensures in
    let cell = c.cell-cell.result in
    let fits : SFits w64 c.cell-cell.result.base = base_fits t.words.items cell k.right in
    let lo_fits : SFits w64 c.args.lo = c.ranges.lo in
    let hi_fits : SFits w64 c.args.hi = c.ranges.hi in
    let least_fits : SFits w64 c.value_at-least.result = record { sfits = c.value_at-least.type_inv } in
    let past_fits : SFits w64 c.value_at-past.result = record { sfits = c.value_at-past.type_inv } in
    let least : c.value_at-least.result ≡ cell.base +ℤ pos cell.first = simp to_z-of_z at c.value_at-least.ensures in
    let past : c.value_at-past.result ≡ cell.base +ℤ pos cell.end = simp to_z-of_z at c.value_at-past.ensures in
    let before_past : SFits w64 (c.value_at-past.result -ℤ pos 1) = last_fits cell c.value_at-past.result (is_small t.words.items cell k.right) past in
    let high = high_places cell c.args.lo c.args.hi c.value_at-least.result c.value_at-past.result c.offset_of-then-hi-past-2.result least past (simp to_z-of_z at c.if-lo-least.false) (simp to_z-of_z at c.if-hi-past-2.true) (simp to_z-of_z at c.if-lo-past.false) (simp to_z-of_z at c.offset_of-then-hi-past-2.ensures) in
    high.some

pub move_end-requires-clause-room : goal.move_end-requires-clause-room
move_end-requires-clause-room c =
    let t = c.args.self.now in
    let k = c.cell-cell.ensures in
    let cell = c.cell-cell.result in
    let fits : SFits w64 c.cell-cell.result.base = base_fits t.words.items cell k.right in
    let lo_fits : SFits w64 c.args.lo = c.ranges.lo in
    let hi_fits : SFits w64 c.args.hi = c.ranges.hi in
    let least_fits : SFits w64 c.value_at-least.result = record { sfits = c.value_at-least.type_inv } in
    let past_fits : SFits w64 c.value_at-past.result = record { sfits = c.value_at-past.type_inv } in
    let least : c.value_at-least.result ≡ cell.base +ℤ pos cell.first = simp to_z-of_z at c.value_at-least.ensures in
    let past : c.value_at-past.result ≡ cell.base +ℤ pos cell.end = simp to_z-of_z at c.value_at-past.ensures in
    let before_past : SFits w64 (c.value_at-past.result -ℤ pos 1) = last_fits cell c.value_at-past.result (is_small t.words.items cell k.right) past in
    let high = high_places cell c.args.lo c.args.hi c.value_at-least.result c.value_at-past.result c.offset_of-then-hi-past-2.result least past (simp to_z-of_z at c.if-lo-least.false) (simp to_z-of_z at c.if-hi-past-2.true) (simp to_z-of_z at c.if-lo-past.false) (simp to_z-of_z at c.offset_of-then-hi-past-2.ensures) in
    some_room t c.args.x cell c.args.lo c.args.hi _ _ _ c.requires.var k.at k.right high.span high.some c.requires.room

pub returns-then-hi-least-clause-takes : goal.returns-then-hi-least-clause-takes
returns-then-hi-least-clause-takes c =
    let t = c.args.self.now in
    let k = c.cell-cell.ensures in
    let cell = c.cell-cell.result in
    let fits : SFits w64 c.cell-cell.result.base = base_fits t.words.items cell k.right in
    let lo_fits : SFits w64 c.args.lo = c.ranges.lo in
    let hi_fits : SFits w64 c.args.hi = c.ranges.hi in
    let least_fits : SFits w64 c.value_at-least.result = record { sfits = c.value_at-least.type_inv } in
    let past_fits : SFits w64 c.value_at-past.result = record { sfits = c.value_at-past.type_inv } in
    let least : c.value_at-least.result ≡ cell.base +ℤ pos cell.first = simp to_z-of_z at c.value_at-least.ensures in
    let past : c.value_at-past.result ≡ cell.base +ℤ pos cell.end = simp to_z-of_z at c.value_at-past.ensures in
    let before_past : SFits w64 (c.value_at-past.result -ℤ pos 1) = last_fits cell c.value_at-past.result (is_small t.words.items cell k.right) past in
    takes_no_span t c.args.x cell c.args.lo c.args.hi _ _ c.requires.sound c.requires.var k.at
    (none_below cell c.args.lo c.args.hi c.value_at-least.result k.right.order least (simp to_z-of_z at c.if-lo-least.true) (simp to_z-of_z at c.if-hi-least.true)) (le_refl _)

pub returns-then-lo-past-clause-takes : goal.returns-then-lo-past-clause-takes
returns-then-lo-past-clause-takes c =
    let t = c.args.self.now in
    let k = c.cell-cell.ensures in
    let cell = c.cell-cell.result in
    let fits : SFits w64 c.cell-cell.result.base = base_fits t.words.items cell k.right in
    let lo_fits : SFits w64 c.args.lo = c.ranges.lo in
    let hi_fits : SFits w64 c.args.hi = c.ranges.hi in
    let least_fits : SFits w64 c.value_at-least.result = record { sfits = c.value_at-least.type_inv } in
    let past_fits : SFits w64 c.value_at-past.result = record { sfits = c.value_at-past.type_inv } in
    let least : c.value_at-least.result ≡ cell.base +ℤ pos cell.first = simp to_z-of_z at c.value_at-least.ensures in
    let past : c.value_at-past.result ≡ cell.base +ℤ pos cell.end = simp to_z-of_z at c.value_at-past.ensures in
    let before_past : SFits w64 (c.value_at-past.result -ℤ pos 1) = last_fits cell c.value_at-past.result (is_small t.words.items cell k.right) past in
    takes_no_span t c.args.x cell c.args.lo c.args.hi _ _ c.requires.sound c.requires.var k.at
    (none_above cell c.args.lo c.args.hi c.value_at-past.result k.right.order past (simp to_z-of_z at c.if-hi-past-2.true) (simp to_z-of_z at c.if-lo-past.true)) (le_refl _)

pub returns-then-hi-past-clause-takes : goal.returns-then-hi-past-clause-takes
returns-then-hi-past-clause-takes c =
    let t = c.args.self.now in
    let k = c.cell-cell.ensures in
    let cell = c.cell-cell.result in
    let fits : SFits w64 c.cell-cell.result.base = base_fits t.words.items cell k.right in
    let lo_fits : SFits w64 c.args.lo = c.ranges.lo in
    let hi_fits : SFits w64 c.args.hi = c.ranges.hi in
    let least_fits : SFits w64 c.value_at-least.result = record { sfits = c.value_at-least.type_inv } in
    let past_fits : SFits w64 c.value_at-past.result = record { sfits = c.value_at-past.type_inv } in
    let least : c.value_at-least.result ≡ cell.base +ℤ pos cell.first = simp to_z-of_z at c.value_at-least.ensures in
    let past : c.value_at-past.result ≡ cell.base +ℤ pos cell.end = simp to_z-of_z at c.value_at-past.ensures in
    let before_past : SFits w64 (c.value_at-past.result -ℤ pos 1) = last_fits cell c.value_at-past.result (is_small t.words.items cell k.right) past in
    let low = low_places cell c.args.lo c.args.hi c.value_at-least.result c.value_at-past.result c.offset_of.result least past (simp to_z-of_z at c.if-lo-least.true) (simp to_z-of_z at c.if-hi-least.false) (simp to_z-of_z at c.if-hi-past.true) (simp to_z-of_z at c.offset_of.ensures) in
    takes_span t c.move_first.new.self c.args.x cell c.args.lo c.args.hi _ _ c.requires.var k.at low.span low.some c.move_first.ensures.takes

pub returns-then-hi-past-2-clause-takes : goal.returns-then-hi-past-2-clause-takes
returns-then-hi-past-2-clause-takes c =
    let t = c.args.self.now in
    let k = c.cell-cell.ensures in
    let cell = c.cell-cell.result in
    let fits : SFits w64 c.cell-cell.result.base = base_fits t.words.items cell k.right in
    let lo_fits : SFits w64 c.args.lo = c.ranges.lo in
    let hi_fits : SFits w64 c.args.hi = c.ranges.hi in
    let least_fits : SFits w64 c.value_at-least.result = record { sfits = c.value_at-least.type_inv } in
    let past_fits : SFits w64 c.value_at-past.result = record { sfits = c.value_at-past.type_inv } in
    let least : c.value_at-least.result ≡ cell.base +ℤ pos cell.first = simp to_z-of_z at c.value_at-least.ensures in
    let past : c.value_at-past.result ≡ cell.base +ℤ pos cell.end = simp to_z-of_z at c.value_at-past.ensures in
    let before_past : SFits w64 (c.value_at-past.result -ℤ pos 1) = last_fits cell c.value_at-past.result (is_small t.words.items cell k.right) past in
    let high = high_places cell c.args.lo c.args.hi c.value_at-least.result c.value_at-past.result c.offset_of-then-hi-past-2.result least past (simp to_z-of_z at c.if-lo-least.false) (simp to_z-of_z at c.if-hi-past-2.true) (simp to_z-of_z at c.if-lo-past.false) (simp to_z-of_z at c.offset_of-then-hi-past-2.ensures) in
    takes_span t c.move_end.new.self c.args.x cell c.args.lo c.args.hi _ _ c.requires.var k.at high.span high.some c.move_end.ensures.takes

pub returns-then-hi-least-clause-answer : goal.returns-then-hi-least-clause-answer
returns-then-hi-least-clause-answer c =
    nothing_removed (length (values_left (box_in c.args.self.now) c.args.x)) _ refl

pub returns-then-lo-past-clause-answer : goal.returns-then-lo-past-clause-answer
returns-then-lo-past-clause-answer c =
    nothing_removed (length (values_left (box_in c.args.self.now) c.args.x)) _ refl

pub returns-then-hi-past-clause-answer : goal.returns-then-hi-past-clause-answer
returns-then-hi-past-clause-answer c =
    let m = c.move_first.ensures in
    fewer_removed _ _ _ _ m.step m.takes.few m.some

pub returns-then-hi-past-2-clause-answer : goal.returns-then-hi-past-2-clause-answer
returns-then-hi-past-2-clause-answer c =
    let m = c.move_end.ensures in
    fewer_removed _ _ _ _ m.step m.takes.few m.some
