use Rattle.std.proofs.Common.{◌≡◌, ◌-◌, ap, false, rules, subst, arith, w64}
use Rattle.std.specs.Prelude.{int_lt}
use Rattle.std.proofs.lemmas.Int.{to_z-of_z}
use mir.Val.{SFits}
use Rattle.qc_model.specs.Domains.{declared_box, values_left, least_value, greatest_value}
use Rattle.prop_engine.proofs.Declared.{place_declared, passes_at, some_values, least_declared, greatest_declared}
use Rattle.prop_engine.proofs.waking.ends_moved_ever.Goals as goal

pub variable-requires : goal.variable-requires
variable-requires c = place_declared c.args.problem.now c.args.store.now.box c.args.x.0 c.requires.declared (omega (arith, c.if-x-count.false, c.count.ensures))

pub size-size-requires : goal.size-size-requires
size-size-requires c = passes_at c.args.problem.now c.args.x.0 c.variable.result.now c.known.ensures.domains c.variable.ensures

pub value_at-requires-clause-valid : goal.value_at-requires-clause-valid
value_at-requires-clause-valid c = passes_at c.args.problem.now c.args.x.0 c.variable.result.now c.known.ensures.domains c.variable.ensures

pub value_at-requires-clause-place : goal.value_at-requires-clause-place
value_at-requires-clause-place c = some_values c.variable.result.now.domain (passes_at c.args.problem.now c.args.x.0 c.variable.result.now c.known.ensures.domains c.variable.ensures)

pub value_at-requires-2-clause-valid : goal.value_at-requires-2-clause-valid
value_at-requires-2-clause-valid c = passes_at c.args.problem.now c.args.x.0 c.variable.result.now c.known.ensures.domains c.variable.ensures

pub returns-clause-least : goal.returns-clause-least
returns-clause-least c = λ h.
    let first : SFits w64 c.value_at.result = search rules in
    let low : SFits w64 c.min.result = search rules in
    let still : int_lt c.value_at.result c.min.result ≡ false = simp to_z-of_z at h in
    subst (λ v. int_lt (least_value (values_left (declared_box c.args.problem.now) c.args.x.0)) v ≡ false) c.min.ensures
    (least_declared c.args.problem.now c.args.x.0 c.variable.result.now c.value_at.result c.min.result c.known.ensures.domains c.variable.ensures c.value_at.ensures still)

pub returns-clause-greatest : goal.returns-clause-greatest
returns-clause-greatest c = λ h.
    let last : SFits w64 c.value_at-2.result = search rules in
    let high : SFits w64 c.max.result = search rules in
    let still : int_lt c.max.result c.value_at-2.result ≡ false = simp to_z-of_z at h in
    subst (λ v. int_lt v (greatest_value (values_left (declared_box c.args.problem.now) c.args.x.0)) ≡ false) c.max.ensures
    (greatest_declared c.args.problem.now c.args.x.0 _ c.variable.result.now c.value_at-2.result c.max.result c.known.ensures.domains c.variable.ensures (ap (λ n. n - 1) c.size-size.ensures) c.value_at-2.ensures still)
