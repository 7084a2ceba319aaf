use Rattle.std.proofs.Common.{◌≡◌, rules, to_z, sym, ap, ◌∙◌, false}
use Rattle.std.specs.Prelude.{◌-ℤ◌, pos, not}
use Rattle.std.proofs.lemmas.Int.{to_z-of_z}
use mir.Val.{SFits}
use mir.Syntax.{w64}
use Rattle.qc_model.specs.Domains.{set_has}
use Rattle.qc_model.specs.Refuted.{left_to}
use Rattle.qc_refuter.proofs.Commons.{up_to_some}
use Rattle.prop_element.specs.Members.{is_wanted}
use Rattle.prop_element.proofs.Beyond.{none_after, walked_down, walk_down_smaller, previous_fits, walked_last, walked_down_none}
use Rattle.prop_element.proofs.others.last_unlisted.Goals as goal

pub loop-v-init : goal.loop-v-init
loop-v-init c =
    let d = left_to c.args.store.now.box c.args.a in
    let end_fits : SFits w64 c.greatest-up_to.result = search rules in
    simp to_z-of_z (none_after (is_wanted false c.args.set.now) d c.greatest-up_to.result c.greatest-up_to.ensures)

pub returns-then-not-contains-clause-some : goal.returns-then-not-contains-clause-some
returns-then-not-contains-clause-some c =
    let d = left_to c.args.store.now.box c.args.a in
    let v_fits : SFits w64 c.in-Some.v = search rules in
    let at = to_z w64 c.loop-v.up_to-bits in
    let n = up_to_some d at c.in-Some.v (sym c.in-Some.is ∙ c.previous_of.ensures) in
    let m : c.contains.result ≡ set_has c.args.set.now c.in-Some.v = simp to_z-of_z at c.contains.ensures in
    simp to_z-of_z (walked_last (is_wanted false c.args.set.now) d at c.in-Some.v c.loop-v.invariant n (ap not (sym m ∙ c.if-not-contains.true)))

pub overflow_sub-up_to : goal.overflow_sub-up_to
overflow_sub-up_to c =
    let d = left_to c.args.store.now.box c.args.a in
    let v_fits : SFits w64 c.in-Some.v = search rules in
    let at = to_z w64 c.loop-v.up_to-bits in
    simp to_z-of_z (previous_fits d at c.in-Some.v c.requires.open (up_to_some d at c.in-Some.v (sym c.in-Some.is ∙ c.previous_of.ensures)))

pub loop-v-smaller : goal.loop-v-smaller
loop-v-smaller c =
    let d = left_to c.args.store.now.box c.args.a in
    let v_fits : SFits w64 c.in-Some.v = search rules in
    let at = to_z w64 c.loop-v.up_to-bits in
    let n = up_to_some d at c.in-Some.v (sym c.in-Some.is ∙ c.previous_of.ensures) in
    let n_fits : SFits w64 (c.in-Some.v -ℤ pos 1) = previous_fits d at c.in-Some.v c.requires.open n in
    simp to_z-of_z (walk_down_smaller d at c.in-Some.v c.requires.open n)

pub loop-v-preserved : goal.loop-v-preserved
loop-v-preserved c =
    let d = left_to c.args.store.now.box c.args.a in
    let v_fits : SFits w64 c.in-Some.v = search rules in
    let at = to_z w64 c.loop-v.up_to-bits in
    let n = up_to_some d at c.in-Some.v (sym c.in-Some.is ∙ c.previous_of.ensures) in
    let n_fits : SFits w64 (c.in-Some.v -ℤ pos 1) = previous_fits d at c.in-Some.v c.requires.open n in
    let m : c.contains.result ≡ set_has c.args.set.now c.in-Some.v = simp to_z-of_z at c.contains.ensures in
    simp to_z-of_z (walked_down (is_wanted false c.args.set.now) d at c.in-Some.v c.loop-v.invariant n (ap not (sym m ∙ c.if-not-contains.false)))

pub returns-clause-none : goal.returns-clause-none
returns-clause-none c =
    walked_down_none (is_wanted false c.args.set.now) (left_to c.args.store.now.box c.args.a) (to_z w64 c.loop-v.up_to-bits) c.loop-v.invariant (sym c.in_default.is ∙ c.previous_of.ensures)
