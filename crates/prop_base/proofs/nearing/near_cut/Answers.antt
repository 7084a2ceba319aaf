use Rattle.std.proofs.Common.{◌≡◌, refl, sym, ap, subst, ◌∙◌, arith, rules, ℤ, w64, to_z, of_z}
use Rattle.std.specs.Prelude.{◌≤ℤ◌, int_le}
use Rattle.std.proofs.lemmas.Int.{to_z-of_z}
use mir.Val.{SFits}
use Rattle.qc_model.specs.Domains.{values_left, least_value, greatest_value}
use Rattle.qc_model.specs.Valid.{is_number}
use Rattle.prop_base.proofs.SameValues.{IsNear, near_of, near_same, near_cut_is, cut_left, ends_numbers}
use Rattle.prop_base.proofs.nearing.near_cut.Goals as goal

near : (c : goal.After-end_near) → IsNear c.args.cut.lo c.args.cut.hi (to_z w64 (of_z w64 c.begin_near.result)) (to_z w64 (of_z w64 c.end_near.result)) (least_value (values_left c.args.store.now.box c.args.cut.x.0)) (greatest_value (values_left c.args.store.now.box c.args.cut.x.0))
near c =
    let vs = values_left c.args.store.now.box c.args.cut.x.0 in
    let lo_fits : SFits w64 c.args.cut.lo = search rules in
    let hi_fits : SFits w64 c.args.cut.hi = search rules in
    let least_fits : SFits w64 c.min.result = search rules in
    let greatest_fits : SFits w64 c.max.result = search rules in
    let begins = simp to_z-of_z at c.begin_near.ensures.same in
    let ends = simp to_z-of_z at c.end_near.ensures.same in
    let first : (v : ℤ) → least_value vs ≤ℤ v → int_le c.begin_near.result v ≡ int_le c.args.cut.lo v = λ v h. begins v (subst (λ n. n ≤ℤ v) (sym c.min.ensures) h) in
    let last : (v : ℤ) → v ≤ℤ greatest_value vs → int_le v c.end_near.result ≡ int_le v c.args.cut.hi = λ v h. ends v (subst (λ n. v ≤ℤ n) (sym c.max.ensures) h) in
    near_of c.args.cut.lo c.args.cut.hi c.begin_near.result c.end_near.result (least_value vs) (greatest_value vs) _ _ (grind (arith, to_z-of_z)) (grind (arith, to_z-of_z)) first last

pub returns-clause-cut : goal.returns-clause-cut
returns-clause-cut c =
    let vs = values_left c.args.store.now.box c.args.cut.x.0 in
    let lo_fits : SFits w64 c.args.cut.lo = search rules in
    let hi_fits : SFits w64 c.args.cut.hi = search rules in
    let least_fits : SFits w64 c.min.result = search rules in
    let greatest_fits : SFits w64 c.max.result = search rules in
    let k = ends_numbers vs (cut_left c.args.rule.now c.args.store.now.box c.args.cut c.requires.cut) c.known.ensures.numbers in
    let low = (simp to_z-of_z at c.begin_near.ensures.number) c.requires.cut.low (ap is_number c.min.ensures ∙ k.0) in
    let high = (simp to_z-of_z at c.end_near.ensures.number) c.requires.cut.high (ap is_number c.max.ensures ∙ k.1) in
    let begin_is : to_z w64 (of_z w64 c.begin_near.result) ≡ c.begin_near.result = grind (arith, to_z-of_z) in
    let end_is : to_z w64 (of_z w64 c.end_near.result) ≡ c.end_near.result = grind (arith, to_z-of_z) in
    near_cut_is c.args.rule.now c.args.store.now.box c.args.cut _ refl (ap is_number begin_is ∙ low) (ap is_number end_is ∙ high) (near c) c.requires.cut

pub returns-clause-same : goal.returns-clause-same
returns-clause-same c = near_same c.args.store.now.box c.args.cut.x.0 c.args.cut.lo c.args.cut.hi _ _ (near c)
