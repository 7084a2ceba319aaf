use Rattle.std.proofs.Common.{◌≡◌, ℤ, Bool, rules, to_z, sym, ap, ◌∙◌}
use Rattle.std.specs.Prelude.{◌+ℤ◌, pos, not}
use Rattle.std.proofs.lemmas.Int.{to_z-of_z}
use mir.Val.{SFits}
use mir.Syntax.{w64}
use Rattle.qc_model.specs.Domains.{set_has}
use Rattle.qc_model.specs.Refuted.{left_to}
use Rattle.qc_refuter.proofs.Commons.{from_some}
use Rattle.qc_refuter.proofs.Walks.{some_found, none_before, none_walked, walked_on, walk_smaller, next_fits}
use Rattle.prop_entailed.proofs.members.some_unlisted.Goals as goal

pub loop-v-init : goal.loop-v-init
loop-v-init c =
    let d = left_to c.args.store.now.box c.args.arg in
    let p : ℤ → Bool = λ w. not (set_has c.args.set.now w) in
    let low_fits : SFits w64 c.least-from.result = search rules in
    simp to_z-of_z (none_before p d c.least-from.result c.least-from.ensures)

pub returns-then-not-contains : goal.returns-then-not-contains
returns-then-not-contains c =
    let d = left_to c.args.store.now.box c.args.arg in
    let p : ℤ → Bool = λ w. not (set_has c.args.set.now w) in
    let v_fits : SFits w64 c.in-Some.v = search rules in
    let n = from_some d (to_z w64 c.loop-v.from-bits) c.in-Some.v (sym c.in-Some.is ∙ c.next.ensures) in
    let m : c.contains.result ≡ set_has c.args.set.now c.in-Some.v = simp to_z-of_z at c.contains.ensures in
    some_found p d c.in-Some.v n.there (ap not (sym m ∙ c.if-not-contains.true))

pub overflow_add-from : goal.overflow_add-from
overflow_add-from c =
    let d = left_to c.args.store.now.box c.args.arg in
    let v_fits : SFits w64 c.in-Some.v = search rules in
    let from = to_z w64 c.loop-v.from-bits in
    simp to_z-of_z (next_fits d from c.in-Some.v c.requires.open (from_some d from c.in-Some.v (sym c.in-Some.is ∙ c.next.ensures)))

pub loop-v-smaller : goal.loop-v-smaller
loop-v-smaller c =
    let d = left_to c.args.store.now.box c.args.arg in
    let v_fits : SFits w64 c.in-Some.v = search rules in
    let from = to_z w64 c.loop-v.from-bits in
    let n = from_some d from c.in-Some.v (sym c.in-Some.is ∙ c.next.ensures) in
    let n_fits : SFits w64 (c.in-Some.v +ℤ pos 1) = next_fits d from c.in-Some.v c.requires.open n in
    simp to_z-of_z (walk_smaller d from c.in-Some.v c.requires.open n)

pub loop-v-preserved : goal.loop-v-preserved
loop-v-preserved c =
    let d = left_to c.args.store.now.box c.args.arg in
    let p : ℤ → Bool = λ w. not (set_has c.args.set.now w) in
    let v_fits : SFits w64 c.in-Some.v = search rules in
    let from = to_z w64 c.loop-v.from-bits in
    let n = from_some d from c.in-Some.v (sym c.in-Some.is ∙ c.next.ensures) in
    let n_fits : SFits w64 (c.in-Some.v +ℤ pos 1) = next_fits d from c.in-Some.v c.requires.open n in
    let m : c.contains.result ≡ set_has c.args.set.now c.in-Some.v = simp to_z-of_z at c.contains.ensures in
    simp to_z-of_z (walked_on p d from c.in-Some.v c.loop-v.invariant n (ap not (sym m ∙ c.if-not-contains.false)))

pub returns : goal.returns
returns c =
    let d = left_to c.args.store.now.box c.args.arg in
    let p : ℤ → Bool = λ w. not (set_has c.args.set.now w) in
    none_walked p d (to_z w64 c.loop-v.from-bits) c.loop-v.invariant (sym c.in_default.is ∙ c.next.ensures)
