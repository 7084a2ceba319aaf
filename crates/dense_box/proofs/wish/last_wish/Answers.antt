use Rattle.std.proofs.Common.{◌∙◌, sym, ap, arith, None}
use Rattle.qc_model.specs.Block.{of_kind}
use Rattle.dense_tree.specs.Steps.{condition_variable}
use Rattle.dense_box.proofs.Tracking.{not_last, is_last}
use Rattle.dense_box.proofs.wish.last_wish.Goals as goal

pub returns-then-i-scopes : goal.returns-then-i-scopes
returns-then-i-scopes c = sym (not_last c.args.problem.now.scopes c.args.i.0 c.requires (λ e. omega (arith, e)))

pub returns-in-Exists : goal.returns-in-Exists
returns-in-Exists c =
    let s = c.scope-scope.result.now in
    c.condition_wish.ensures
    ∙ sym (is_last c.args.problem.now.scopes c.args.i.0 s c.scope-scope.ensures (omega arith) ∙ ap (λ k. of_kind k (condition_variable s.condition) None) c.in-Exists.is)

pub returns-in-Forall : goal.returns-in-Forall
returns-in-Forall c =
    let s = c.scope-scope.result.now in
    sym (is_last c.args.problem.now.scopes c.args.i.0 s c.scope-scope.ensures (omega arith) ∙ ap (λ k. of_kind k (condition_variable s.condition) None) c.in-Forall.is)
