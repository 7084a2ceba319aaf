use Rattle.std.proofs.Common.{[], length, ap, ◌∙◌, sym}
use Rattle.qc_model.specs.Demands.{demands}
use Rattle.qc_model.specs.ForallVerdict.{goal_verdict}
use Rattle.joins.proofs.AtScope.{columns_room}
use Rattle.joins.proofs.joins.Joins.goal.Goals as goal

pub finish-requires : goal.finish-requires
finish-requires c =
    let j = c.args.self.now in
    columns_room j.problem.now (length j.problem.now.scopes) j.goal j.out.list.capacity j.at_goal.scope j.room

pub returns-then-holds-clause-verdict : goal.returns-then-holds-clause-verdict
returns-then-holds-clause-verdict c =
    let j = c.args.self.now in
    let g = j.problem.now in
    let n = length g.scopes in
    c.finish.ensures.verdict g n [] j.at_goal.scope j.at_goal.stands
    ∙ ap (λ b. goal_verdict g b (demands g n) c.args.values.now) (sym c.if-holds.true)
