use Rattle.std.proofs.Common.{◌∙◌, sym, ap, length, arith, ◌∷◌}
use Rattle.check_lines.proofs.Stacks.{count, pushed}
use Rattle.check_lines.proofs.nesting.Nesting.push.Goals as goal

pub returns : goal.returns
returns c =
    let m = c.self.inside in
    let size = sym (count m.places.items m.depth) ∙ ap length c.self.view_is in
    pushed m.places.items m.depth c.args.frame (omega (arith, size, c.requires, c.self.invariant.0)) ∙ ap (λ fs. c.args.frame ∷ fs) c.self.view_is
