use Rattle.std.proofs.Common.{◌∙◌, sym, ap, subst, length}
use Rattle.qc_model.specs.Content.{Game}
use Rattle.qc_model.specs.Demands.{demands}
use Rattle.qc_model.specs.ForallVerdict.{goal_verdict}
use Rattle.check_lines.specs.Machine.{game_of, IsReadyAt}
use Rattle.check_lines.proofs.Passed.{plain_goal, passed_tells}
use Rattle.check_lines.proofs.machine.Machine.pass_node.Goals as goal

pub returns-clause-tells : goal.returns-clause-tells
returns-clause-tells c =
    let m = c.args.self.now in
    let g = game_of m in
    let vs = c.values.result.now in
    let won = c.args.won in
    let node = subst (IsReadyAt m) c.requires.due c.requires.ready in
    let verdict =
    c.goal-self.ensures.verdict
    ∙ (ap (λ (u : Game). goal_verdict u won (demands u (length u.scopes)) vs) node.sound.joined ∙ plain_goal g won (demands g (length g.scopes)) vs (c.requires.plain (length g.scopes))) in
    passed_tells m node c.saturating_add-self.result c.goal-self.new.self c.goal-self.result c.goal-self.ensures.all c.goal-self.ensures.same won c.args.turns c.close_node.new.self c.close_node.ensures.tells c.saturating_add-self.ensures c.requires.plain
    (sym verdict) c.requires.due c.close_node.ensures.same
