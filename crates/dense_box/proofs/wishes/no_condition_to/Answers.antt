use Rattle.std.proofs.Common.{◌∙◌, sym, drop}
use Rattle.dense_box.proofs.Tracking.{beyond_last, condition_found, condition_missed}
use Rattle.dense_box.proofs.wishes.no_condition_to.Goals as goal

pub returns-then-last-at : goal.returns-then-last-at
returns-then-last-at c =
    let ss = c.args.problem.now.scopes in
    sym (beyond_last c.args.last (drop c.loop-at.at ss) c.loop-at.at c.if-last-at.true) ∙ c.loop-at.invariant

pub returns-then-is_some : goal.returns-then-is_some
returns-then-is_some c =
    sym (condition_found c.args.last c.args.problem.now.scopes c.loop-at.at c.scope.result.now c.scope.ensures c.if-last-at.false (sym c.is_some.ensures ∙ c.if-is_some.true)) ∙ c.loop-at.invariant

pub loop-at-preserved : goal.loop-at-preserved
loop-at-preserved c =
    condition_missed c.args.last c.args.problem.now.scopes c.loop-at.at c.scope.result.now c.scope.ensures c.if-last-at.false (sym c.is_some.ensures ∙ c.if-is_some.false) ∙ c.loop-at.invariant
