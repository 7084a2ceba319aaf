use Rattle.std.proofs.Common.{◌≡◌, rules, to_z, sym, ap, ◌∙◌, false}
use Rattle.std.specs.Prelude.{◌+ℤ◌, pos, not}
use Rattle.std.proofs.lemmas.Int.{to_z-of_z}
use mir.Val.{SFits}
use mir.Syntax.{w64}
use Rattle.qc_model.specs.Domains.{set_has}
use Rattle.qc_model.specs.Refuted.{left_to}
use Rattle.qc_refuter.proofs.Commons.{from_some}
use Rattle.qc_refuter.proofs.Walks.{none_before, walked_on, walk_smaller, next_fits}
use Rattle.prop_element.specs.Members.{is_wanted}
use Rattle.prop_element.proofs.Beyond.{walked_first, walked_none}
use Rattle.prop_element.proofs.others.first_unlisted.Goals as goal

pub loop-v-init : goal.loop-v-init
loop-v-init c =
    let d = left_to c.args.store.now.box c.args.a in
    let end_fits : SFits w64 c.least-from.result = search rules in
    simp to_z-of_z (none_before (is_wanted false c.args.set.now) d c.least-from.result c.least-from.ensures)

pub returns-then-not-contains-clause-some : goal.returns-then-not-contains-clause-some
returns-then-not-contains-clause-some c =
    let d = left_to c.args.store.now.box c.args.a in
    let v_fits : SFits w64 c.in-Some.v = search rules in
    let at = to_z w64 c.loop-v.from-bits in
    let n = from_some d at c.in-Some.v (sym c.in-Some.is ∙ c.next_of.ensures) in
    let m : c.contains.result ≡ set_has c.args.set.now c.in-Some.v = simp to_z-of_z at c.contains.ensures in
    simp to_z-of_z (walked_first (is_wanted false c.args.set.now) d at c.in-Some.v c.loop-v.invariant n (ap not (sym m ∙ c.if-not-contains.true)))

pub overflow_add-from : goal.overflow_add-from
overflow_add-from c =
    let d = left_to c.args.store.now.box c.args.a in
    let v_fits : SFits w64 c.in-Some.v = search rules in
    let at = to_z w64 c.loop-v.from-bits in
    simp to_z-of_z (next_fits d at c.in-Some.v c.requires.open (from_some d at c.in-Some.v (sym c.in-Some.is ∙ c.next_of.ensures)))

pub loop-v-smaller : goal.loop-v-smaller
loop-v-smaller c =
    let d = left_to c.args.store.now.box c.args.a in
    let v_fits : SFits w64 c.in-Some.v = search rules in
    let at = to_z w64 c.loop-v.from-bits in
    let n = from_some d at c.in-Some.v (sym c.in-Some.is ∙ c.next_of.ensures) in
    let n_fits : SFits w64 (c.in-Some.v +ℤ pos 1) = next_fits d at c.in-Some.v c.requires.open n in
    simp to_z-of_z (walk_smaller d at c.in-Some.v c.requires.open n)

pub loop-v-preserved : goal.loop-v-preserved
loop-v-preserved c =
    let d = left_to c.args.store.now.box c.args.a in
    let v_fits : SFits w64 c.in-Some.v = search rules in
    let at = to_z w64 c.loop-v.from-bits in
    let n = from_some d at c.in-Some.v (sym c.in-Some.is ∙ c.next_of.ensures) in
    let n_fits : SFits w64 (c.in-Some.v +ℤ pos 1) = next_fits d at c.in-Some.v c.requires.open n in
    let m : c.contains.result ≡ set_has c.args.set.now c.in-Some.v = simp to_z-of_z at c.contains.ensures in
    simp to_z-of_z (walked_on (is_wanted false c.args.set.now) d at c.in-Some.v c.loop-v.invariant n (ap not (sym m ∙ c.if-not-contains.false)))

pub returns-clause-none : goal.returns-clause-none
returns-clause-none c =
    walked_none (is_wanted false c.args.set.now) (left_to c.args.store.now.box c.args.a) (to_z w64 c.loop-v.from-bits) c.loop-v.invariant (sym c.in_default.is ∙ c.next_of.ensures)
