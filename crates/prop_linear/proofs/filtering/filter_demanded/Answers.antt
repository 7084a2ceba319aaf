use Rattle.std.proofs.Common.{sym, subst, rules, true, ℤ}
use Rattle.std.proofs.lemmas.Int.{to_z-of_z}
use mir.Val.{SFits}
use mir.Syntax.{w64}
use Rattle.prop_linear.specs.declared.relation.Demand.{Demand}
use Rattle.prop_linear.specs.Demands.{IsDemanded}
use Rattle.prop_linear.specs.Sides.{signed}
use Rattle.prop_linear.specs.Tightening.{IsBounded}
use Rattle.prop_linear.proofs.filtering.filter_demanded.Goals as goal

pub filter_at_most-requires-clause-bounded : goal.filter_at_most-requires-clause-bounded
filter_at_most-requires-clause-bounded c =
    let n_fits : SFits w64 c.args.bound = search rules in
    let D : Demand → Type 0 = λ d. IsDemanded d c.args.asked.rule.now c.args.store.now.box c.args.factors.now c.args.items.now c.args.bound in
    simp to_z-of_z (subst D c.in-UpTo.is c.requires.demanded)

pub filter_at_most-requires-in-Over-clause-bounded : goal.filter_at_most-requires-in-Over-clause-bounded
filter_at_most-requires-in-Over-clause-bounded c =
    let n_fits : SFits w64 c.args.bound = search rules in
    let m_fits : SFits w64 c.under_opposite-most.result = search rules in
    let D : Demand → Type 0 = λ d. IsDemanded d c.args.asked.rule.now c.args.store.now.box c.args.factors.now c.args.items.now c.args.bound in
    let B : ℤ → Type 0 = λ n. IsBounded c.args.asked.rule.now c.args.store.now.box (signed true c.args.factors.now) c.args.items.now n in
    let m = simp to_z-of_z at c.under_opposite-most.ensures in
    simp to_z-of_z (subst B (sym m) (subst D c.in-Over.is c.requires.demanded))

pub filter_sum_equal-requires-clause-balanced : goal.filter_sum_equal-requires-clause-balanced
filter_sum_equal-requires-clause-balanced c =
    let n_fits : SFits w64 c.args.bound = search rules in
    let D : Demand → Type 0 = λ d. IsDemanded d c.args.asked.rule.now c.args.store.now.box c.args.factors.now c.args.items.now c.args.bound in
    simp to_z-of_z (subst D c.in-Exactly.is c.requires.demanded)

pub filter_sum_different-requires-clause-unequal : goal.filter_sum_different-requires-clause-unequal
filter_sum_different-requires-clause-unequal c =
    let n_fits : SFits w64 c.args.bound = search rules in
    let D : Demand → Type 0 = λ d. IsDemanded d c.args.asked.rule.now c.args.store.now.box c.args.factors.now c.args.items.now c.args.bound in
    simp to_z-of_z (subst D c.in-Off.is c.requires.demanded)
