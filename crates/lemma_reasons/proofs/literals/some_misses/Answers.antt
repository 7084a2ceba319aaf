use Rattle.std.proofs.Common.{◌≡◌, ◌∙◌, ℤ, Bool, false, rules, to_z, sym, ap}
use Rattle.std.specs.Prelude.{◌+ℤ◌, pos, not}
use Rattle.std.proofs.lemmas.Int.{to_z-of_z}
use mir.Val.{SFits}
use mir.Syntax.{w64}
use Rattle.qc_model.specs.Domains.{values_left}
use Rattle.qc_refuter.proofs.Commons.{from_some}
use Rattle.qc_refuter.proofs.Walks.{some_found, none_before, none_walked}
use Rattle.lemma_list.specs.Literals.{meets}
use Rattle.lemma_reasons.proofs.Left.{walked_past, all_past, past_smaller, past_fits}
use Rattle.lemma_reasons.proofs.literals.some_misses.Goals as goal

pub loop-v-init : goal.loop-v-init
loop-v-init c =
    let p : ℤ → Bool = λ v. not (meets c.args.literals.now c.args.x.0 v) in
    let low_fits : SFits w64 c.min-from.result = search rules in
    simp to_z-of_z (none_before p (values_left c.args.store.now.box c.args.x.0) c.min-from.result c.min-from.ensures)

pub returns-in_default-met_to : goal.returns-in_default-met_to
returns-in_default-met_to c =
    let d = values_left c.args.store.now.box c.args.x.0 in
    let p : ℤ → Bool = λ v. not (meets c.args.literals.now c.args.x.0 v) in
    let v_fits : SFits w64 c.in-Some.v = search rules in
    let n = from_some d (to_z w64 c.loop-v.from-bits) c.in-Some.v (sym c.in-Some.is ∙ c.next.ensures) in
    let m : meets c.args.literals.now c.args.x.0 c.in-Some.v ≡ false = simp to_z-of_z at c.in_default-met_to.ensures.none in
    some_found p d c.in-Some.v n.there (ap not m)

pub returns-then-end-ge-MOST : goal.returns-then-end-ge-MOST
returns-then-end-ge-MOST c =
    let d = values_left c.args.store.now.box c.args.x.0 in
    let p : ℤ → Bool = λ v. not (meets c.args.literals.now c.args.x.0 v) in
    let v_fits : SFits w64 c.in-Some.v = search rules in
    let h_fits : SFits w64 c.in-Some-met_to.end = search rules in
    let from = to_z w64 c.loop-v.from-bits in
    let n = from_some d from c.in-Some.v (sym c.in-Some.is ∙ c.next.ensures) in
    let m = simp to_z-of_z at c.in-Some-met_to.ensures.some in
    let e = simp to_z-of_z at c.if-end-ge-MOST.true in
    all_past p d from c.in-Some.v c.in-Some-met_to.end c.requires c.loop-v.invariant n (λ u a b. ap not (m.1 u a b)) e

pub loop-v-smaller : goal.loop-v-smaller
loop-v-smaller c =
    let d = values_left c.args.store.now.box c.args.x.0 in
    let v_fits : SFits w64 c.in-Some.v = search rules in
    let h_fits : SFits w64 c.in-Some-met_to.end = search rules in
    let from = to_z w64 c.loop-v.from-bits in
    let n = from_some d from c.in-Some.v (sym c.in-Some.is ∙ c.next.ensures) in
    let m = simp to_z-of_z at c.in-Some-met_to.ensures.some in
    let e = simp to_z-of_z at c.if-end-ge-MOST.false in
    let n_fits : SFits w64 (c.in-Some-met_to.end +ℤ pos 1) = past_fits d from c.in-Some.v c.in-Some-met_to.end c.requires n m.0 e in
    simp to_z-of_z (past_smaller d from c.in-Some.v c.in-Some-met_to.end c.requires n m.0 e)

pub loop-v-preserved : goal.loop-v-preserved
loop-v-preserved c =
    let d = values_left c.args.store.now.box c.args.x.0 in
    let p : ℤ → Bool = λ v. not (meets c.args.literals.now c.args.x.0 v) in
    let v_fits : SFits w64 c.in-Some.v = search rules in
    let h_fits : SFits w64 c.in-Some-met_to.end = search rules in
    let from = to_z w64 c.loop-v.from-bits in
    let n = from_some d from c.in-Some.v (sym c.in-Some.is ∙ c.next.ensures) in
    let m = simp to_z-of_z at c.in-Some-met_to.ensures.some in
    let e = simp to_z-of_z at c.if-end-ge-MOST.false in
    let n_fits : SFits w64 (c.in-Some-met_to.end +ℤ pos 1) = past_fits d from c.in-Some.v c.in-Some-met_to.end c.requires n m.0 e in
    simp to_z-of_z (walked_past p d from c.in-Some.v c.in-Some-met_to.end c.loop-v.invariant n (λ u a b. ap not (m.1 u a b)))

pub returns : goal.returns
returns c =
    let d = values_left c.args.store.now.box c.args.x.0 in
    let p : ℤ → Bool = λ v. not (meets c.args.literals.now c.args.x.0 v) in
    none_walked p d (to_z w64 c.loop-v.from-bits) c.loop-v.invariant (sym c.in_default.is ∙ c.next.ensures)
