use Rattle.std.proofs.Common.{subst}
use Rattle.check_lines.specs.Machine.{IsReadyAt}
use Rattle.check_lines.specs.Telling.{TellsAt}
use Rattle.proof_tree.specs.declared.line.Line.TheVariants as line_of
use Rattle.check_lines.proofs.Turning.{case_after, part_after}
use Rattle.check_lines.proofs.machine.Machine.take_next.Goals as goal

pub returns-in-Case-clause-tells : goal.returns-in-Case-clause-tells
returns-in-Case-clause-tells c = λ n p few t.
    let m = c.args.self.now in
    let ready = subst (IsReadyAt m) c.in-Case.is c.requires.ready in
    case_after m c.fork_next.new.self line_of.Next ready.sound.laws c.fork_next.ensures.same c.fork_next.ensures.tells n p few (subst (λ u. TellsAt m u p) c.in-Case.is t.tells) t.sizes

pub returns-in-Part-clause-tells : goal.returns-in-Part-clause-tells
returns-in-Part-clause-tells c = λ n p few t.
    let m = c.args.self.now in
    let ready = subst (IsReadyAt m) c.in-Part.is c.requires.ready in
    part_after m c.part_next.new.self line_of.Next ready.sound.laws c.part_next.ensures.same c.part_next.ensures.tells n p few (subst (λ u. TellsAt m u p) c.in-Part.is t.tells) t.sizes
