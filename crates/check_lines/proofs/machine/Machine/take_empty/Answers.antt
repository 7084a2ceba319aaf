use Rattle.std.proofs.Common.{subst}
use Rattle.check_lines.specs.Machine.{IsReadyAt}
use Rattle.check_lines.specs.Telling.{TellsAt}
use Rattle.proof_tree.specs.declared.line.Line.TheVariants as line_of
use Rattle.check_lines.proofs.Turning.{part_after}
use Rattle.check_lines.proofs.machine.Machine.take_empty.Goals as goal

pub returns-in-Part-clause-tells : goal.returns-in-Part-clause-tells
returns-in-Part-clause-tells c = λ n p few t.
    let m = c.args.self.now in
    let ready = subst (IsReadyAt m) c.in-Part.is c.requires.ready in
    part_after m c.empty_line.new.self line_of.Empty ready.sound.laws c.empty_line.ensures.same c.empty_line.ensures.tells n p few (subst (λ u. TellsAt m u p) c.in-Part.is t.tells) t.sizes
