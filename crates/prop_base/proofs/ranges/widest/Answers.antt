use Rattle.std.proofs.Common.{sym, subst}
use Rattle.prop_base.specs.Closed.{IsCut}
use Rattle.prop_base.proofs.ranges.widest.Goals as goal

pub returns : goal.returns
returns g c = subst (λ k. IsCut c.args.rule.now c.args.store.now.box k) (sym c.widened.ensures) c.reach-more.ensures.cut
