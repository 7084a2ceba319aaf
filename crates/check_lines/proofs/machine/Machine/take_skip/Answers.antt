use Rattle.std.proofs.Common.{subst}
use Rattle.check_lines.specs.Machine.{IsReadyAt}
use Rattle.check_lines.specs.Telling.{TellsAt}
use Rattle.proof_tree.specs.declared.line.Line.TheVariants as line_of
use Rattle.check_lines.proofs.Turning.{case_after}
use Rattle.check_lines.proofs.machine.Machine.take_skip.Goals as goal

pub returns-in-Case-clause-tells : goal.returns-in-Case-clause-tells
returns-in-Case-clause-tells c = λ n p few t.
    let m = c.args.self.now in
    let ready = subst (IsReadyAt m) c.in-Case.is c.requires.ready in
    case_after m c.fork_skip.new.self line_of.Skip ready.sound.laws c.fork_skip.ensures.same c.fork_skip.ensures.tells n p few (subst (λ u. TellsAt m u p) c.in-Case.is t.tells) t.sizes
