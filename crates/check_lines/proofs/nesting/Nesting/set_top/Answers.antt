use Rattle.std.proofs.Common.{◌∙◌, ◌<◌, sym, ap, length, arith, subst, ◌∷◌}
use Rattle.check_lines.specs.Places.{rest}
use Rattle.check_lines.proofs.Stacks.{top_set}
use Rattle.check_lines.proofs.nesting.Nesting.set_top.Goals as goal

pub returns : goal.returns
returns c =
    let m = c.self.inside in
    top_set m.places.items m.depth c.args.frame (subst (λ fs. 0 < length fs) (sym c.self.view_is) c.requires) (omega (arith, c.self.invariant.0, c.self.invariant.1))
    ∙ ap (λ fs. c.args.frame ∷ rest fs) c.self.view_is
