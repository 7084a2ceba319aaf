use Rattle.std.proofs.Common.{◌∙◌, ◌&&◌, not, sym, ap, List, ℤ, slice_get}
use Rattle.qc_model.specs.declared.problem.ScopeId.{ScopeId}
use Rattle.dense_tree.specs.Free.{is_universal, is_unrestricted, is_always_allowed}
use Rattle.dense_box.proofs.given.may_give.Goals as goal

pub returns-clause-placed : goal.returns-clause-placed
returns-clause-placed c = λ u e f.
    let g = c.args.levels.now.problem.now in
    let vs = c.args.values.now in
    let here = c.is_always_allowed.ensures.allowed ∙ sym (ap (λ b. b && is_always_allowed g c.args.scope.0 vs) (sym c.may_be_stuck.ensures.is ∙ c.if-not-may_be_stuck.false)) in
    here
    ∙ sym
    (ap (λ (k : ScopeId). is_universal (slice_get g.scopes k.0) && not (is_unrestricted g k.0) && is_always_allowed g k.0 u.tuple) e
    ∙ ap (λ (t : List ℤ). is_universal (slice_get g.scopes c.args.scope.0) && not (is_unrestricted g c.args.scope.0) && is_always_allowed g c.args.scope.0 t) f)
