use Rattle.joins.proofs.Takings.{bound_kept}
use Rattle.joins.proofs.scope_join.ScopeJoin.add_bound.Goals as goal

pub returns-in-Forall-clause-stands : goal.returns-in-Forall-clause-stands
returns-in-Forall-clause-stands c = λ xs g. bound_kept c.args.self.now c.in-Forall._join c.args.best xs c.in-Forall.is g
