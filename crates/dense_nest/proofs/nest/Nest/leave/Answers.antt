use Rattle.std.proofs.Common.{◌≡◌, ◌∷◌, ◌∙◌, ap}
use Rattle.dense_nest.specs.declared.place.Open.TheVariants.{Waiting}
use Rattle.dense_nest.proofs.Leaving.{left}
use Rattle.dense_nest.proofs.nest.Nest.leave.Goals as goal

pub returns-clause-leaves : goal.returns-clause-leaves
returns-clause-leaves c =
    let up = c.in-Some-Waiting.up in
    let os = c.pop.new.self in
    let m1 = c.settle.new.self in
    let top : m1.open ≡ Waiting up ∷ os = c.in-Some-Waiting.ensures.some ∙ ap (λ o. o ∷ os) c.in-Some-Waiting.field-0-is in
    left c.args.self.now m1 c.add_leaf.new.self c.args.e up os c.in_ok-settle.ensures.settles top c.in_ok-add_leaf.ensures.sees
