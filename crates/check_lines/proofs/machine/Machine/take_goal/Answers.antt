use Rattle.std.proofs.Common.{subst}
use Rattle.check_lines.specs.Machine.{IsReadyAt}
use Rattle.check_lines.specs.Telling.{TellsAt}
use Rattle.proof_tree.specs.declared.line.Line.TheVariants as line_of
use Rattle.check_lines.proofs.Turning.{node_after}
use Rattle.check_lines.proofs.machine.Machine.take_goal.Goals as goal

pub returns-in-Node-clause-tells : goal.returns-in-Node-clause-tells
returns-in-Node-clause-tells c = λ n p few t.
    let m = c.args.self.now in
    let ready = subst (IsReadyAt m) c.in-Node.is c.requires.ready in
    node_after m c.goal_line.new.self line_of.Goal ready.sound.laws c.goal_line.ensures.same c.goal_line.ensures.tells n p few (subst (λ u. TellsAt m u p) c.in-Node.is t.tells) t.sizes
