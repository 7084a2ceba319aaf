use Rattle.std.proofs.Common.{◌≡◌, ◌∙◌, sym, ap, take, drop}
use Rattle.qc_model.specs.Content.{Game}
use Rattle.qc_model.specs.Demands.{demands}
use Rattle.joins.specs.Verdicts.{stuck_of}
use Rattle.check_lines.specs.Machine.{game_of, before_of}
use Rattle.check_lines.proofs.AtNodes.{stuck_tells}
use Rattle.check_lines.proofs.machine.Machine.stuck_scope.Goals as goal

pub returns-clause-tells : goal.returns-clause-tells
returns-clause-tells c =
    let m = c.args.self.now in
    let s = c.requires.node.sound in
    let vals : take c.count_before-count.result c.values.result.now ≡ before_of m = ap (take c.count_before-count.result) c.values.ensures ∙ ap (λ k. take k m.values.items) c.count_before-count.ensures in
    let stuck = c.stuck-self.ensures.verdict ∙ (ap (λ (g : Game). stuck_of (drop m.number g.scopes) g (demands g m.number) (take c.count_before-count.result c.values.result.now)) s.joined ∙ ap (stuck_of (drop m.number (game_of m).scopes) (game_of m) (demands (game_of m) m.number)) vals) in
    stuck_tells m c.stuck-self.new.self c.stuck-self.result c.requires.node c.stuck-self.ensures.others c.stuck-self.ensures.same c.close_node.new.self c.close_node.ensures.tells (sym stuck)
