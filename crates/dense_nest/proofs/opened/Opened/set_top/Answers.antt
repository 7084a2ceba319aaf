use Rattle.std.proofs.Common.{◌∷◌, ◌∙◌, ◌<◌, ◌-◌, ap, sym, subst, length, reverse, arith}
use Rattle.std.proofs.lemmas.List.{length-reverse}
use Rattle.dense_nest.specs.Opened.{rest}
use Rattle.dense_nest.proofs.Openings.{last_set}
use Rattle.dense_nest.proofs.opened.Opened.set_top.Goals as goal

pub returns : goal.returns
returns c =
    let o = c.self.inside in
    let some : 0 < length (reverse o.places.items) = subst (λ os. 0 < length os) (sym c.self.view_is) c.requires in
    let size = length-reverse o.places.items in
    last_set o.places.items (c.len-at.result - 1) c.args.last (omega (arith, some, size, c.len-at.ensures))
    ∙ ap (λ os. c.args.last ∷ rest os) c.self.view_is
