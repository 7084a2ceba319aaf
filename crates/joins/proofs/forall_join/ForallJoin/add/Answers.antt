use Rattle.joins.proofs.Gathered.{gathers_barred}
use Rattle.joins.proofs.forall_join.ForallJoin.add.Goals as goal

pub returns-in-Barred-clause-stands : goal.returns-in-Barred-clause-stands
returns-in-Barred-clause-stands c =
    let j = c.args.self.now in
    λ xs g s. rw c.in-Barred.is (gathers_barred j.columns.items j.any_lost j.all_exact j.all_known j.has_exact j.any_known j.known xs g)
