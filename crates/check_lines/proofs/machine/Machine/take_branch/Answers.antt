use Rattle.std.proofs.Common.{subst}
use Rattle.check_lines.specs.Machine.{IsReadyAt}
use Rattle.check_lines.specs.Telling.{TellsAt}
use Rattle.proof_tree.specs.declared.line.Line.TheVariants as line_of
use Rattle.check_lines.proofs.Turning.{case_after, node_after, part_after}
use Rattle.check_lines.proofs.machine.Machine.take_branch.Goals as goal

pub returns-in-Case-clause-tells : goal.returns-in-Case-clause-tells
returns-in-Case-clause-tells c = λ n p few t.
    let m = c.args.self.now in
    let ready = subst (IsReadyAt m) c.in-Case.is c.requires.ready in
    case_after m c.fork_branch.new.self (line_of.Branch c.args.x) ready.sound.laws c.fork_branch.ensures.same c.fork_branch.ensures.tells n p few (subst (λ u. TellsAt m u p) c.in-Case.is t.tells) t.sizes

pub returns-in-Part-clause-tells : goal.returns-in-Part-clause-tells
returns-in-Part-clause-tells c = λ n p few t.
    let m = c.args.self.now in
    let ready = subst (IsReadyAt m) c.in-Part.is c.requires.ready in
    part_after m c.part_branch.new.self (line_of.Branch c.args.x) ready.sound.laws c.part_branch.ensures.same c.part_branch.ensures.tells n p few (subst (λ u. TellsAt m u p) c.in-Part.is t.tells) t.sizes

pub returns-in-Node-clause-tells : goal.returns-in-Node-clause-tells
returns-in-Node-clause-tells c = λ n p few t.
    let m = c.args.self.now in
    let ready = subst (IsReadyAt m) c.in-Node.is c.requires.ready in
    node_after m c.node_branch.new.self (line_of.Branch c.args.x) ready.sound.laws c.node_branch.ensures.same c.node_branch.ensures.tells n p few (subst (λ u. TellsAt m u p) c.in-Node.is t.tells) t.sizes
