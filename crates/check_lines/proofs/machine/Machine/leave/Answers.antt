use Rattle.std.proofs.Common.{subst, sym, ◌<◌, length}
use Rattle.check_lines.specs.Places.{rest}
use Rattle.qc_model.specs.Content.{Game}
use Rattle.check_lines.proofs.Closes.{left_goes, left_within, left_scope}
use Rattle.check_lines.proofs.machine.Machine.leave.Goals as goal

pub add_node-requires : goal.add_node-requires
add_node-requires c =
    let m = c.args.self.now in
    subst (λ (g : Game). c.saturating_sub-self.result < length g.scopes) (sym c.requires.sound.joined) (left_scope m c.saturating_sub-self.result c.args.horizon (rest m.nesting) c.requires.top c.requires.sound c.saturating_sub-self.ensures)

pub returns-clause-left : goal.returns-clause-left
returns-clause-left c =
    let m = c.args.self.now in
    left_goes m c.add_node.new.self c.saturating_sub-self.result c.args.horizon (rest m.nesting) c.pop.new.self c.requires.top c.pop.ensures c.requires.sound c.saturating_sub-self.ensures c.add_node.ensures.others c.add_node.ensures.same c.leaves_fit.ensures.small c.add_node.ensures.stands

pub returns-clause-within : goal.returns-clause-within
returns-clause-within c =
    let m = c.args.self.now in
    left_within m c.add_node.new.self c.saturating_sub-self.result c.args.horizon (rest m.nesting) c.pop.new.self c.requires.top c.pop.ensures c.requires.sound c.saturating_sub-self.ensures c.add_node.ensures.others c.add_node.ensures.same
