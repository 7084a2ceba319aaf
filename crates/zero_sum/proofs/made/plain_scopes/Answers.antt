use Rattle.std.proofs.Common.{refl}
use Rattle.zero_sum.specs.Bounded.{plain}
use Rattle.zero_sum.proofs.Steps.{map_step}
use Rattle.zero_sum.proofs.made.plain_scopes.Goals as goal

pub loop-i-preserved : goal.loop-i-preserved
loop-i-preserved c =
    map_step plain c.args.problem.now.scopes c.loop-i.i c.scope-scope.result.now _ _ _ _ c.scope-scope.ensures c.loop-i.invariant c.in_ok-push.ensures.items refl
