use Rattle.std.proofs.Common.{◌∙◌, ◌<◌, ◌∷◌, ap, subst, sym, length, arith}
use Rattle.box_laws.proofs.Numbers.{passed_after}
use Rattle.dense_nest.specs.declared.nest.Nest.{Nest}
use Rattle.dense_nest.specs.declared.place.Open.TheVariants.{Forked}
use Rattle.dense_nest.specs.Opened.{rest}
use Rattle.dense_nest.proofs.nest.Nest.move_on.Goals as goal

pub set_top-requires : goal.set_top-requires
set_top-requires c = subst (λ os. 0 < length os) (sym c.requires.top) (omega arith)

pub returns : goal.returns
returns c =
    let m = c.args.self.now in
    ap (λ os. let n : Nest = record m { «open» = os } in n) (c.set_top.ensures ∙ ap (λ v. Forked (record (c.args.k) { from = v }) ∷ rest m.open) (passed_after c.args.ends.last c.requires.number))
