use Rattle.std.proofs.Common.{subst, rules}
use Rattle.std.proofs.lemmas.Int.{to_z-of_z}
use mir.Val.{SFits}
use mir.Syntax.{w64}
use Rattle.check_lines.specs.Machine.{IsReadyAt}
use Rattle.check_lines.specs.Telling.{TellsAt}
use Rattle.proof_tree.specs.declared.line.Line.TheVariants as line_of
use Rattle.check_lines.proofs.Turning.{case_after, node_after, part_after}
use Rattle.check_lines.proofs.machine.Machine.take_prune.Goals as goal

pub returns-in-Part-clause-tells : goal.returns-in-Part-clause-tells
returns-in-Part-clause-tells c = λ n p few t.
    let lo_fits : SFits w64 c.args.lo = search rules in
    let hi_fits : SFits w64 c.args.hi = search rules in
    let m = c.args.self.now in
    let ready = subst (IsReadyAt m) c.in-Part.is c.requires.ready in
    part_after m c.part_prune.new.self (line_of.Prune c.args.x c.args.lo c.args.hi c.args.c) ready.sound.laws c.part_prune.ensures.same (simp to_z-of_z at c.part_prune.ensures.tells) n p few (subst (λ u. TellsAt m u p) c.in-Part.is t.tells) t.sizes

pub returns-in-Case-clause-tells : goal.returns-in-Case-clause-tells
returns-in-Case-clause-tells c = λ n p few t.
    let lo_fits : SFits w64 c.args.lo = search rules in
    let hi_fits : SFits w64 c.args.hi = search rules in
    let m = c.args.self.now in
    let ready = subst (IsReadyAt m) c.in-Case.is c.requires.ready in
    case_after m c.fork_prune.new.self (line_of.Prune c.args.x c.args.lo c.args.hi c.args.c) ready.sound.laws c.fork_prune.ensures.same (simp to_z-of_z at c.fork_prune.ensures.tells) n p few (subst (λ u. TellsAt m u p) c.in-Case.is t.tells) t.sizes

pub returns-in-Node-clause-tells : goal.returns-in-Node-clause-tells
returns-in-Node-clause-tells c = λ n p few t.
    let lo_fits : SFits w64 c.args.lo = search rules in
    let hi_fits : SFits w64 c.args.hi = search rules in
    let m = c.args.self.now in
    let ready = subst (IsReadyAt m) c.in-Node.is c.requires.ready in
    node_after m c.node_prune.new.self (line_of.Prune c.args.x c.args.lo c.args.hi c.args.c) ready.sound.laws c.node_prune.ensures.same (simp to_z-of_z at c.node_prune.ensures.tells) n p few (subst (λ u. TellsAt m u p) c.in-Node.is t.tells) t.sizes
