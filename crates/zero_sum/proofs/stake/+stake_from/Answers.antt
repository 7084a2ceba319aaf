use Rattle.std.proofs.Common.{sym, ◌∙◌}
use Rattle.qc_model.specs.declared.problem.Kind.TheVariants.{Exists}
use Rattle.zero_sum.proofs.Steps.{stake_step, stake_variable, stake_inner, stake_none}
use Rattle.zero_sum.proofs.stake.+stake_from.Goals as goal

pub returns-in-Exists : goal.returns-in-Exists
returns-in-Exists t c =
    c.stake_from.ensures ∙ sym (stake_step c.args.problem.now c.args.sense c.args.i c.scope.result.now Exists c.args.place c.args.target c.scope.ensures c.in-Exists.is)

pub returns-in-Var-target : goal.returns-in-Var-target
returns-in-Var-target t c =
    stake_variable c.args.problem.now c.args.sense c.args.i c.scope.result.now c.args.place c.args.target c.in-Var-target.x c.stake_at-in-Var-target.result
    c.scope.ensures c.in-Forall.is c.in-Var-target.is c.stake_at-in-Var-target.ensures

pub returns-in-Some : goal.returns-in-Some
returns-in-Some t c =
    stake_inner c.args.problem.now c.args.sense c.args.i c.scope.result.now c.args.place c.args.target c.in-Aggregate-target.q c.worst_target.result c.in-Some.inner c.stake_from-in-Some.result
    c.scope.ensures c.in-Forall.is c.in-Aggregate-target.is c.worst_target.ensures c.in-Some.is c.stake_from-in-Some.ensures

pub returns-in-None : goal.returns-in-None
returns-in-None t c =
    stake_none c.args.problem.now c.args.sense c.args.i c.scope.result.now c.args.place c.args.target c.in-Aggregate-target.q c.worst_target.result
    c.scope.ensures c.in-Forall.is c.in-Aggregate-target.is c.worst_target.ensures c.in-None.is
