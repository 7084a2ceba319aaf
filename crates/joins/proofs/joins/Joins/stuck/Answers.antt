use Rattle.std.proofs.Common.{[], ap, ◌∙◌}
use Rattle.qc_model.specs.Demands.{demands}
use Rattle.joins.specs.Verdicts.{verdict_at}
use Rattle.joins.proofs.AtScope.{stuck_player, stuck_opponent}
use Rattle.joins.proofs.joins.Joins.stuck.Goals as goal

pub returns-in-Exists-clause-verdict : goal.returns-in-Exists-clause-verdict
returns-in-Exists-clause-verdict c =
    let g = c.args.self.now.problem.now in
    stuck_player g c.args.i.0 c.scope.result.now (demands g c.args.i.0) c.args.values.now c.scope.ensures c.in-Exists.is

pub returns-in-Forall-clause-verdict : goal.returns-in-Forall-clause-verdict
returns-in-Forall-clause-verdict c =
    let g = c.args.self.now.problem.now in
    let i = c.args.i.0 in
    let a = c.args.values.now in
    c.finish.ensures.verdict [] c.clear.ensures.stands
    ∙ ap (λ h. verdict_at h i a []) c.clear.ensures.same
    ∙ stuck_opponent g i c.scope.result.now a c.scope.ensures c.in-Forall.is
