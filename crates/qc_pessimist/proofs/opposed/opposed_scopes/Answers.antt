use Rattle.qc_pessimist.specs.Refusals.{is_chosen}
use Rattle.qc_pessimist.proofs.Steps.{scopes_step}
use Rattle.qc_pessimist.proofs.opposed.opposed_scopes.Goals as goal

pub loop-i-preserved : goal.loop-i-preserved
loop-i-preserved c =
    scopes_step (is_chosen c.args.places) c.args.problem.now.scopes c.loop-i.i c.scope-scope.result.now c.chosen_wish.result
    c.loop-i.scopes.items c.push.new.self.items c.push_opposing.new.scopes.items _
    c.scope-scope.ensures c.loop-i.invariant c.in_ok-push.ensures.items c.chosen_wish.ensures c.in_ok-push_opposing.ensures
