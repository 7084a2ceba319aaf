use Rattle.joins.proofs.Gathered.{gathers_unknown}
use Rattle.joins.proofs.forall_join.ForallJoin.add_unknown.Goals as goal

pub returns-clause-stands : goal.returns-clause-stands
returns-clause-stands c =
    let j = c.args.self.now in
    λ xs g. gathers_unknown j.columns.items j.any_lost j.all_exact j.all_known j.has_exact j.any_known j.known xs g
