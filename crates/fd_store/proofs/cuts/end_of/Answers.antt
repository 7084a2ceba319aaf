use Rattle.std.proofs.Common.{arith}
use Rattle.std.proofs.lemmas.Int.{to_z-of_z}
use mir.Val.{SFits}
use mir.Syntax.{w64}
use Rattle.fd_store.proofs.CutEnds.{end_first, end_last, end_last_value, hi_among, among_from, among_below, place_from, place_below, end_places, end_value}
use Rattle.fd_store.proofs.cuts.end_of.Goals as goal

pub returns-then-hi-value_at-clause-places : goal.returns-then-hi-value_at-clause-places
returns-then-hi-value_at-clause-places c =
    let base_fits : SFits w64 c.args.base = c.ranges.base in
    let hi_fits : SFits w64 c.args.hi = c.ranges.hi in
    let first_fits : SFits w64 c.value_at.result = record { sfits = c.value_at.type_inv } in
    end_first c.args.base c.args.hi c.value_at.result c.args.first c.args.end (simp to_z-of_z at c.value_at.ensures) (simp to_z-of_z at c.if-hi-value_at.true)

pub returns-then-hi-value_at-2-clause-places : goal.returns-then-hi-value_at-2-clause-places
returns-then-hi-value_at-2-clause-places c =
    let base_fits : SFits w64 c.args.base = c.ranges.base in
    let hi_fits : SFits w64 c.args.hi = c.ranges.hi in
    let end_fits : SFits w64 c.value_at-else-hi-value_at.result = record { sfits = c.value_at-else-hi-value_at.type_inv } in
    end_last c.args.base c.args.hi c.value_at-else-hi-value_at.result c.args.first c.args.end (simp to_z-of_z at c.value_at-else-hi-value_at.ensures) (simp to_z-of_z at c.if-hi-value_at-2.true)

pub returns-then-hi-value_at-2-clause-value : goal.returns-then-hi-value_at-2-clause-value
returns-then-hi-value_at-2-clause-value c =
    let base_fits : SFits w64 c.args.base = c.ranges.base in
    let hi_fits : SFits w64 c.args.hi = c.ranges.hi in
    let end_fits : SFits w64 c.value_at-else-hi-value_at.result = record { sfits = c.value_at-else-hi-value_at.type_inv } in
    end_last_value c.args.base c.args.hi c.value_at-else-hi-value_at.result c.args.first c.args.end (simp to_z-of_z at c.value_at-else-hi-value_at.ensures) (simp to_z-of_z at c.if-hi-value_at-2.true)

pub offset_of-requires-clause-from : goal.offset_of-requires-clause-from
offset_of-requires-clause-from c =
    let base_fits : SFits w64 c.args.base = c.ranges.base in
    let hi_fits : SFits w64 c.args.hi = c.ranges.hi in
    let first_fits : SFits w64 c.value_at.result = record { sfits = c.value_at.type_inv } in
    let end_fits : SFits w64 c.value_at-else-hi-value_at.result = record { sfits = c.value_at-else-hi-value_at.type_inv } in
    let among = hi_among c.args.base c.args.hi c.value_at.result c.value_at-else-hi-value_at.result c.args.first c.args.end (simp to_z-of_z at c.value_at.ensures) (simp to_z-of_z at c.if-hi-value_at.false) (simp to_z-of_z at c.value_at-else-hi-value_at.ensures) (simp to_z-of_z at c.if-hi-value_at-2.false) in
    simp to_z-of_z (among_from c.args.base c.args.hi c.args.first c.args.end among)

pub offset_of-requires-clause-below : goal.offset_of-requires-clause-below
offset_of-requires-clause-below c =
    let base_fits : SFits w64 c.args.base = c.ranges.base in
    let hi_fits : SFits w64 c.args.hi = c.ranges.hi in
    let first_fits : SFits w64 c.value_at.result = record { sfits = c.value_at.type_inv } in
    let end_fits : SFits w64 c.value_at-else-hi-value_at.result = record { sfits = c.value_at-else-hi-value_at.type_inv } in
    let among = hi_among c.args.base c.args.hi c.value_at.result c.value_at-else-hi-value_at.result c.args.first c.args.end (simp to_z-of_z at c.value_at.ensures) (simp to_z-of_z at c.if-hi-value_at.false) (simp to_z-of_z at c.value_at-else-hi-value_at.ensures) (simp to_z-of_z at c.if-hi-value_at-2.false) in
    simp to_z-of_z (among_below c.args.base c.args.hi c.args.first c.args.end c.requires.within among)

pub overflow_add-result : goal.overflow_add-result
overflow_add-result c =
    let base_fits : SFits w64 c.args.base = c.ranges.base in
    let hi_fits : SFits w64 c.args.hi = c.ranges.hi in
    let first_fits : SFits w64 c.value_at.result = record { sfits = c.value_at.type_inv } in
    let end_fits : SFits w64 c.value_at-else-hi-value_at.result = record { sfits = c.value_at-else-hi-value_at.type_inv } in
    let among = hi_among c.args.base c.args.hi c.value_at.result c.value_at-else-hi-value_at.result c.args.first c.args.end (simp to_z-of_z at c.value_at.ensures) (simp to_z-of_z at c.if-hi-value_at.false) (simp to_z-of_z at c.value_at-else-hi-value_at.ensures) (simp to_z-of_z at c.if-hi-value_at-2.false) in
    record { fits = omega (arith, place_below c.args.base c.args.hi c.args.first c.args.end c.offset_of.result (simp to_z-of_z at c.offset_of.ensures) among, c.requires.within) }

pub returns-else-hi-value_at-2-clause-from : goal.returns-else-hi-value_at-2-clause-from
returns-else-hi-value_at-2-clause-from c =
    let base_fits : SFits w64 c.args.base = c.ranges.base in
    let hi_fits : SFits w64 c.args.hi = c.ranges.hi in
    let first_fits : SFits w64 c.value_at.result = record { sfits = c.value_at.type_inv } in
    let end_fits : SFits w64 c.value_at-else-hi-value_at.result = record { sfits = c.value_at-else-hi-value_at.type_inv } in
    let among = hi_among c.args.base c.args.hi c.value_at.result c.value_at-else-hi-value_at.result c.args.first c.args.end (simp to_z-of_z at c.value_at.ensures) (simp to_z-of_z at c.if-hi-value_at.false) (simp to_z-of_z at c.value_at-else-hi-value_at.ensures) (simp to_z-of_z at c.if-hi-value_at-2.false) in
    omega (arith, place_from c.args.base c.args.hi c.args.first c.args.end c.offset_of.result (simp to_z-of_z at c.offset_of.ensures) among)

pub returns-else-hi-value_at-2-clause-most : goal.returns-else-hi-value_at-2-clause-most
returns-else-hi-value_at-2-clause-most c =
    let base_fits : SFits w64 c.args.base = c.ranges.base in
    let hi_fits : SFits w64 c.args.hi = c.ranges.hi in
    let first_fits : SFits w64 c.value_at.result = record { sfits = c.value_at.type_inv } in
    let end_fits : SFits w64 c.value_at-else-hi-value_at.result = record { sfits = c.value_at-else-hi-value_at.type_inv } in
    let among = hi_among c.args.base c.args.hi c.value_at.result c.value_at-else-hi-value_at.result c.args.first c.args.end (simp to_z-of_z at c.value_at.ensures) (simp to_z-of_z at c.if-hi-value_at.false) (simp to_z-of_z at c.value_at-else-hi-value_at.ensures) (simp to_z-of_z at c.if-hi-value_at-2.false) in
    place_below c.args.base c.args.hi c.args.first c.args.end c.offset_of.result (simp to_z-of_z at c.offset_of.ensures) among

pub returns-else-hi-value_at-2-clause-places : goal.returns-else-hi-value_at-2-clause-places
returns-else-hi-value_at-2-clause-places c =
    let base_fits : SFits w64 c.args.base = c.ranges.base in
    let hi_fits : SFits w64 c.args.hi = c.ranges.hi in
    λ k p q. end_places c.args.base c.args.hi c.offset_of.result (simp to_z-of_z at c.offset_of.ensures) k

pub returns-else-hi-value_at-2-clause-value : goal.returns-else-hi-value_at-2-clause-value
returns-else-hi-value_at-2-clause-value c =
    let base_fits : SFits w64 c.args.base = c.ranges.base in
    let hi_fits : SFits w64 c.args.hi = c.ranges.hi in
    let first_fits : SFits w64 c.value_at.result = record { sfits = c.value_at.type_inv } in
    let end_fits : SFits w64 c.value_at-else-hi-value_at.result = record { sfits = c.value_at-else-hi-value_at.type_inv } in
    let among = hi_among c.args.base c.args.hi c.value_at.result c.value_at-else-hi-value_at.result c.args.first c.args.end (simp to_z-of_z at c.value_at.ensures) (simp to_z-of_z at c.if-hi-value_at.false) (simp to_z-of_z at c.value_at-else-hi-value_at.ensures) (simp to_z-of_z at c.if-hi-value_at-2.false) in
    λ p. end_value c.args.base c.args.hi c.args.first c.args.end c.offset_of.result (simp to_z-of_z at c.offset_of.ensures) among
