use Rattle.std.proofs.Common.{arith}
use Rattle.std.proofs.lemmas.Int.{to_z-of_z}
use mir.Val.{SFits}
use mir.Syntax.{w64}
use Rattle.fd_store.proofs.CutEnds.{start_first, start_first_value, start_last, lo_among, among_from, among_below, place_from, place_below, start_places, start_value}
use Rattle.fd_store.proofs.cuts.place_of.Goals as goal

pub returns-then-lo-value_at-clause-places : goal.returns-then-lo-value_at-clause-places
returns-then-lo-value_at-clause-places c =
    let base_fits : SFits w64 c.args.base = c.ranges.base in
    let lo_fits : SFits w64 c.args.lo = c.ranges.lo in
    let first_fits : SFits w64 c.value_at.result = record { sfits = c.value_at.type_inv } in
    start_first c.args.base c.args.lo c.value_at.result c.args.first c.args.end (simp to_z-of_z at c.value_at.ensures) (simp to_z-of_z at c.if-lo-value_at.true)

pub returns-then-lo-value_at-clause-value : goal.returns-then-lo-value_at-clause-value
returns-then-lo-value_at-clause-value c =
    let base_fits : SFits w64 c.args.base = c.ranges.base in
    let lo_fits : SFits w64 c.args.lo = c.ranges.lo in
    let first_fits : SFits w64 c.value_at.result = record { sfits = c.value_at.type_inv } in
    λ p. start_first_value c.args.base c.args.lo c.value_at.result c.args.first (simp to_z-of_z at c.value_at.ensures) (simp to_z-of_z at c.if-lo-value_at.true)

pub returns-then-lo-value_at-2-clause-places : goal.returns-then-lo-value_at-2-clause-places
returns-then-lo-value_at-2-clause-places c =
    let base_fits : SFits w64 c.args.base = c.ranges.base in
    let lo_fits : SFits w64 c.args.lo = c.ranges.lo in
    let end_fits : SFits w64 c.value_at-else-lo-value_at.result = record { sfits = c.value_at-else-lo-value_at.type_inv } in
    start_last c.args.base c.args.lo c.value_at-else-lo-value_at.result c.args.first c.args.end (simp to_z-of_z at c.value_at-else-lo-value_at.ensures) (simp to_z-of_z at c.if-lo-value_at-2.true)

pub offset_of-requires-clause-from : goal.offset_of-requires-clause-from
offset_of-requires-clause-from c =
    let base_fits : SFits w64 c.args.base = c.ranges.base in
    let lo_fits : SFits w64 c.args.lo = c.ranges.lo in
    let first_fits : SFits w64 c.value_at.result = record { sfits = c.value_at.type_inv } in
    let end_fits : SFits w64 c.value_at-else-lo-value_at.result = record { sfits = c.value_at-else-lo-value_at.type_inv } in
    let among = lo_among c.args.base c.args.lo c.value_at.result c.value_at-else-lo-value_at.result c.args.first c.args.end (simp to_z-of_z at c.value_at.ensures) (simp to_z-of_z at c.if-lo-value_at.false) (simp to_z-of_z at c.value_at-else-lo-value_at.ensures) (simp to_z-of_z at c.if-lo-value_at-2.false) in
    simp to_z-of_z (among_from c.args.base c.args.lo c.args.first c.args.end among)

pub offset_of-requires-clause-below : goal.offset_of-requires-clause-below
offset_of-requires-clause-below c =
    let base_fits : SFits w64 c.args.base = c.ranges.base in
    let lo_fits : SFits w64 c.args.lo = c.ranges.lo in
    let first_fits : SFits w64 c.value_at.result = record { sfits = c.value_at.type_inv } in
    let end_fits : SFits w64 c.value_at-else-lo-value_at.result = record { sfits = c.value_at-else-lo-value_at.type_inv } in
    let among = lo_among c.args.base c.args.lo c.value_at.result c.value_at-else-lo-value_at.result c.args.first c.args.end (simp to_z-of_z at c.value_at.ensures) (simp to_z-of_z at c.if-lo-value_at.false) (simp to_z-of_z at c.value_at-else-lo-value_at.ensures) (simp to_z-of_z at c.if-lo-value_at-2.false) in
    simp to_z-of_z (among_below c.args.base c.args.lo c.args.first c.args.end c.requires.within among)

pub returns-else-lo-value_at-2-clause-from : goal.returns-else-lo-value_at-2-clause-from
returns-else-lo-value_at-2-clause-from c =
    let base_fits : SFits w64 c.args.base = c.ranges.base in
    let lo_fits : SFits w64 c.args.lo = c.ranges.lo in
    let first_fits : SFits w64 c.value_at.result = record { sfits = c.value_at.type_inv } in
    let end_fits : SFits w64 c.value_at-else-lo-value_at.result = record { sfits = c.value_at-else-lo-value_at.type_inv } in
    let among = lo_among c.args.base c.args.lo c.value_at.result c.value_at-else-lo-value_at.result c.args.first c.args.end (simp to_z-of_z at c.value_at.ensures) (simp to_z-of_z at c.if-lo-value_at.false) (simp to_z-of_z at c.value_at-else-lo-value_at.ensures) (simp to_z-of_z at c.if-lo-value_at-2.false) in
    place_from c.args.base c.args.lo c.args.first c.args.end c.offset_of.result (simp to_z-of_z at c.offset_of.ensures) among

pub returns-else-lo-value_at-2-clause-most : goal.returns-else-lo-value_at-2-clause-most
returns-else-lo-value_at-2-clause-most c =
    let base_fits : SFits w64 c.args.base = c.ranges.base in
    let lo_fits : SFits w64 c.args.lo = c.ranges.lo in
    let first_fits : SFits w64 c.value_at.result = record { sfits = c.value_at.type_inv } in
    let end_fits : SFits w64 c.value_at-else-lo-value_at.result = record { sfits = c.value_at-else-lo-value_at.type_inv } in
    let among = lo_among c.args.base c.args.lo c.value_at.result c.value_at-else-lo-value_at.result c.args.first c.args.end (simp to_z-of_z at c.value_at.ensures) (simp to_z-of_z at c.if-lo-value_at.false) (simp to_z-of_z at c.value_at-else-lo-value_at.ensures) (simp to_z-of_z at c.if-lo-value_at-2.false) in
    omega (arith, place_below c.args.base c.args.lo c.args.first c.args.end c.offset_of.result (simp to_z-of_z at c.offset_of.ensures) among)

pub returns-else-lo-value_at-2-clause-places : goal.returns-else-lo-value_at-2-clause-places
returns-else-lo-value_at-2-clause-places c =
    let base_fits : SFits w64 c.args.base = c.ranges.base in
    let lo_fits : SFits w64 c.args.lo = c.ranges.lo in
    λ k p q. start_places c.args.base c.args.lo c.offset_of.result (simp to_z-of_z at c.offset_of.ensures) k

pub returns-else-lo-value_at-2-clause-value : goal.returns-else-lo-value_at-2-clause-value
returns-else-lo-value_at-2-clause-value c =
    let base_fits : SFits w64 c.args.base = c.ranges.base in
    let lo_fits : SFits w64 c.args.lo = c.ranges.lo in
    let first_fits : SFits w64 c.value_at.result = record { sfits = c.value_at.type_inv } in
    let end_fits : SFits w64 c.value_at-else-lo-value_at.result = record { sfits = c.value_at-else-lo-value_at.type_inv } in
    let among = lo_among c.args.base c.args.lo c.value_at.result c.value_at-else-lo-value_at.result c.args.first c.args.end (simp to_z-of_z at c.value_at.ensures) (simp to_z-of_z at c.if-lo-value_at.false) (simp to_z-of_z at c.value_at-else-lo-value_at.ensures) (simp to_z-of_z at c.if-lo-value_at-2.false) in
    λ p. start_value c.args.base c.args.lo c.args.first c.args.end c.offset_of.result (simp to_z-of_z at c.offset_of.ensures) among
