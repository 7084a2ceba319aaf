use Rattle.std.proofs.Common.{◌≡◌, ◌∙◌, sym, rules, arith, length, map, true, false}
use Rattle.std.proofs.lemmas.Int.{to_z-of_z}
use mir.Val.{SFits}
use mir.Syntax.{w64}
use Rattle.qc_model.specs.Holds.{rows}
use Rattle.qc_model.specs.Refuted.{left_to}
use Rattle.prop_element.specs.Tables.{IsNext, NoneIs, has_entry, fits_beyond}
use Rattle.prop_element.proofs.Rows.{none_beyond, has_key, walk_past, walk_to, walk_out}
use Rattle.prop_element.proofs.Moved.{open_item}
use Rattle.prop_element.proofs.tables.next_row.Goals as goal

pub returns-then-is_spanned-clause-none : goal.returns-then-is_spanned-clause-none
returns-then-is_spanned-clause-none c =
    let low_fits : SFits w64 c.args.low = search rules in
    let high_fits : SFits w64 c.args.high = search rules in
    none_beyond c.args.store.now.box c.args.items.now c.args.k c.args.low c.args.high (rows (length c.args.items.now) c.args.numbers.now) c.requires.place (simp to_z-of_z at (c.is_spanned.ensures c.if-is_spanned.true))

pub returns-then-is_wanted-clause-some : goal.returns-then-is_wanted-clause-some
returns-then-is_wanted-clause-some c =
    let box = c.args.store.now.box in
    let items = c.args.items.now in
    let w = length items in
    let row = c.in-Some.row.now in
    let rest = rows w c.loop-row.rest.now in
    let later = rows w c.in-Some.later.now in
    let from = c.least-from.result in
    let to = c.greatest-to.result in
    let p = fits_beyond (map (left_to box) items) c.args.k c.args.low c.args.high in
    let q = has_entry c.args.key from to in
    let low_fits : SFits w64 c.args.low = search rules in
    let high_fits : SFits w64 c.args.high = search rules in
    let from_fits : SFits w64 from = search rules in
    let to_fits : SFits w64 to = search rules in
    let n : IsNext q rest row later = simp to_z-of_z at c.in-Some.ensures.some in
    let t : p row ≡ true = simp to_z-of_z at (sym c.is_wanted.ensures ∙ c.if-is_wanted.true) in
    walk_to p q (rows w c.args.numbers.now) rest later row (has_key box items c.args.key c.args.k c.args.low c.args.high from to c.requires.key c.least-from.ensures c.greatest-to.ensures) n t (simp to_z-of_z at c.loop-row.invariant.walk)

pub loop-row-preserved : goal.loop-row-preserved
loop-row-preserved c =
    let box = c.args.store.now.box in
    let items = c.args.items.now in
    let w = length items in
    let row = c.in-Some.row.now in
    let rest = rows w c.loop-row.rest.now in
    let later = rows w c.in-Some.later.now in
    let from = c.least-from.result in
    let to = c.greatest-to.result in
    let p = fits_beyond (map (left_to box) items) c.args.k c.args.low c.args.high in
    let q = has_entry c.args.key from to in
    let low_fits : SFits w64 c.args.low = search rules in
    let high_fits : SFits w64 c.args.high = search rules in
    let from_fits : SFits w64 from = search rules in
    let to_fits : SFits w64 to = search rules in
    let less = c.in-Some.ensures.fewer in
    let fewer = c.loop-row.invariant.fewer in
    let n : IsNext q rest row later = simp to_z-of_z at c.in-Some.ensures.some in
    let f : p row ≡ false = simp to_z-of_z at (sym c.is_wanted.ensures ∙ c.if-is_wanted.false) in
    record {
      walk = simp to_z-of_z (walk_past p q (rows w c.args.numbers.now) rest later row (has_key box items c.args.key c.args.k c.args.low c.args.high from to c.requires.key c.least-from.ensures c.greatest-to.ensures) n f (simp to_z-of_z at c.loop-row.invariant.walk));
      fewer = omega (arith, less, fewer);
    }

pub returns-clause-none : goal.returns-clause-none
returns-clause-none c =
    let box = c.args.store.now.box in
    let items = c.args.items.now in
    let w = length items in
    let rest = rows w c.loop-row.rest.now in
    let from = c.least-from.result in
    let to = c.greatest-to.result in
    let p = fits_beyond (map (left_to box) items) c.args.k c.args.low c.args.high in
    let q = has_entry c.args.key from to in
    let low_fits : SFits w64 c.args.low = search rules in
    let high_fits : SFits w64 c.args.high = search rules in
    let from_fits : SFits w64 from = search rules in
    let to_fits : SFits w64 to = search rules in
    let n : NoneIs q rest = simp to_z-of_z at c.in_default.ensures.none in
    walk_out p q (rows w c.args.numbers.now) rest (has_key box items c.args.key c.args.k c.args.low c.args.high from to c.requires.key c.least-from.ensures c.greatest-to.ensures) n (simp to_z-of_z at c.loop-row.invariant.walk)

pub is_spanned-requires : goal.is_spanned-requires
is_spanned-requires c = open_item c.args.store.now.box c.args.items.now c.args.k c.requires.items c.requires.place

pub least-from-requires : goal.least-from-requires
least-from-requires c = open_item c.args.store.now.box c.args.items.now c.args.key c.requires.items c.requires.key

pub greatest-to-requires : goal.greatest-to-requires
greatest-to-requires c = open_item c.args.store.now.box c.args.items.now c.args.key c.requires.items c.requires.key
