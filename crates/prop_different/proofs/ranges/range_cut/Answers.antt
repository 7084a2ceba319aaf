use Rattle.std.proofs.Common.{◌≡◌, ◌∙◌, sym, subst, refl, rules, List, length, true}
use Rattle.std.specs.Prelude.{IfNone, IfSome, pos, ◌+ℤ◌, ◌≤ℤ◌, ◌<ℤ◌}
use Rattle.std.proofs.lemmas.Int.{to_z-of_z}
use mir.Val.{SFits}
use mir.Syntax.{w64}
use Rattle.qc_model.specs.Domains.{Values, values_left, least_value, greatest_value}
use Rattle.qc_model.specs.Valid.{is_number}
use Rattle.qc_refuter.specs.Full.{held}
use Rattle.qc_refuter.proofs.Terms.{least_small, greatest_small}
use Rattle.prop_base.specs.declared.cuts.Cut.{Cut}
use Rattle.prop_different.specs.Different.{IsLeftAlone, IsFullCut, AreRooms}
use Rattle.prop_different.proofs.Alone.{alone_around, alone_after, cut_before, cut_after, cut_moved, read_below, read_from, read_end}
use Rattle.prop_different.proofs.Options.{none_so, some_so}
use Rattle.prop_different.proofs.ranges.range_cut.Goals as goal

pub cut_before-requires-clause-end : goal.cut_before-requires-clause-end
cut_before-requires-clause-end c =
    let e_fits : SFits w64 c.max-end.result = search rules in
    simp to_z-of_z (subst (λ z. is_number z ≡ true) (sym c.max-end.ensures) (greatest_small (values_left c.args.store.now.box c.args.x.0) c.requires.open))

pub width-requires-clause-high : goal.width-requires-clause-high
width-requires-clause-high c =
    let e_fits : SFits w64 c.max-end.result = search rules in
    simp to_z-of_z (subst (λ z. is_number z ≡ true) (sym c.max-end.ensures) (greatest_small (values_left c.args.store.now.box c.args.x.0) c.requires.open))

pub cut_after-requires-clause-start : goal.cut_after-requires-clause-start
cut_after-requires-clause-start c =
    let s_fits : SFits w64 c.min-start.result = search rules in
    simp to_z-of_z (subst (λ z. is_number z ≡ true) (sym c.min-start.ensures) (least_small (values_left c.args.store.now.box c.args.x.0) c.requires.open))

pub returns-then-start-low-clause-none : goal.returns-then-start-low-clause-none
returns-then-start-low-clause-none c =
    let l_fits : SFits w64 c.args.low = search rules in
    let s_fits : SFits w64 c.min-start.result = search rules in
    let e_fits : SFits w64 c.max-end.result = search rules in
    let d = values_left c.args.store.now.box c.args.x.0 in
    let t = simp to_z-of_z at c.if-start-low.true in
    let n = simp to_z-of_z at c.cut_before.ensures.none in
    let Q : Type 0 = (ds : List Values) → AreRooms ds c.args.low c.args.rooms.now c.args.last → IsLeftAlone ds c.args.low d in
    let all : IfNone c.cut_before.result Q =
    none_so c.cut_before.result ((c.args.low +ℤ pos c.args.last) ≤ℤ c.max-end.result) Q
    (λ h ds w. alone_around ds c.args.low d c.args.rooms.now c.args.last w (read_below c.min-start.result c.args.low (least_value d) t c.min-start.ensures) (subst (λ z. (c.args.low +ℤ pos c.args.last) ≤ℤ z) c.max-end.ensures h)) n in
    all

pub returns-then-start-low-clause-some : goal.returns-then-start-low-clause-some
returns-then-start-low-clause-some c =
    let l_fits : SFits w64 c.args.low = search rules in
    let s_fits : SFits w64 c.min-start.result = search rules in
    let e_fits : SFits w64 c.max-end.result = search rules in
    let d = values_left c.args.store.now.box c.args.x.0 in
    let t = simp to_z-of_z at c.if-start-low.true in
    let b = simp to_z-of_z at c.if-end-low.false in
    let n = simp to_z-of_z at c.cut_before.ensures.some in
    let P : Cut → Type 0 = λ k. (k.x ≡ c.args.x) × (k.lo ≡ c.args.low) × (k.hi ≡ c.max-end.result) × (c.max-end.result <ℤ (c.args.low +ℤ pos c.args.last)) in
    let Q : Cut → Type 0 = λ k. (k.x ≡ c.args.x) × ((ds : List Values) → AreRooms ds c.args.low c.args.rooms.now c.args.last → IsFullCut ds c.args.low d k.lo k.hi) in
    let all : IfSome c.cut_before.result Q =
    some_so c.cut_before.result P Q
    (λ k h. (
      h.0,
      λ ds w. cut_moved ds c.args.low d c.args.low (greatest_value d) k.lo k.hi
          (cut_before ds c.args.low d c.args.rooms.now c.args.last w c.requires.open c.requires.low (read_below c.min-start.result c.args.low (least_value d) t c.min-start.ensures) (read_from c.max-end.result c.args.low (greatest_value d) b c.max-end.ensures) (subst (λ z. z <ℤ (c.args.low +ℤ pos c.args.last)) c.max-end.ensures h.3))
          h.1 (h.2 ∙ c.max-end.ensures),
    )) n in
    all

pub returns-clause-none : goal.returns-clause-none
returns-clause-none c =
    let l_fits : SFits w64 c.args.low = search rules in
    let s_fits : SFits w64 c.min-start.result = search rules in
    let e_fits : SFits w64 c.max-end.result = search rules in
    let d = values_left c.args.store.now.box c.args.x.0 in
    let k = c.width.result in
    let wide = simp to_z-of_z at c.width.ensures.value in
    let n = simp to_z-of_z at c.cut_after.ensures.none in
    let room = c.room_before-room.result in
    let Q : Type 0 = (ds : List Values) → AreRooms ds c.args.low c.args.rooms.now c.args.last → IsLeftAlone ds c.args.low d in
    let all : IfNone c.cut_after.result Q =
    none_so c.cut_after.result ((c.args.low +ℤ pos room) ≤ℤ c.min-start.result) Q
    (λ h ds w. alone_after ds c.args.low d c.args.rooms.now c.args.last k room w (c.room_before-room.ensures.room (held ds c.args.low) w.widest) (read_end c.args.low c.max-end.result (greatest_value d) k wide c.max-end.ensures)
    (subst (λ z. (c.args.low +ℤ pos room) ≤ℤ z) c.min-start.ensures h)) n in
    all

pub returns-clause-some : goal.returns-clause-some
returns-clause-some c =
    let l_fits : SFits w64 c.args.low = search rules in
    let s_fits : SFits w64 c.min-start.result = search rules in
    let e_fits : SFits w64 c.max-end.result = search rules in
    let d = values_left c.args.store.now.box c.args.x.0 in
    let k = c.width.result in
    let wide = simp to_z-of_z at c.width.ensures.value in
    let t = simp to_z-of_z at c.if-start-low.false in
    let n = simp to_z-of_z at c.cut_after.ensures.some in
    let room = c.room_before-room.result in
    let P : Cut → Type 0 = λ u. (u.x ≡ c.args.x) × (u.lo ≡ c.min-start.result) × ((u.hi +ℤ pos 1) ≡ c.args.low +ℤ pos room) × (c.min-start.result ≤ℤ u.hi) in
    let Q : Cut → Type 0 = λ u. (u.x ≡ c.args.x) × ((ds : List Values) → AreRooms ds c.args.low c.args.rooms.now c.args.last → IsFullCut ds c.args.low d u.lo u.hi) in
    let all : IfSome c.cut_after.result Q =
    some_so c.cut_after.result P Q
    (λ u h. (
      h.0,
      λ ds w. cut_moved ds c.args.low d (least_value d) u.hi u.lo u.hi
          (cut_after ds c.args.low d (length c.args.rooms.now) k room u.hi (c.room_before-room.ensures.room (held ds c.args.low) w.widest) c.requires.open (read_from c.min-start.result c.args.low (least_value d) t c.min-start.ensures) (subst (λ z. z ≤ℤ u.hi) c.min-start.ensures h.3) h.2 (read_end c.args.low c.max-end.result (greatest_value d) k wide c.max-end.ensures))
          (h.1 ∙ c.min-start.ensures) refl,
    )) n in
    all
