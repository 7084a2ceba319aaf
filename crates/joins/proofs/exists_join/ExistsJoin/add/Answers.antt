use Rattle.joins.proofs.Bests.{keeps_barred, keeps_lost}
use Rattle.joins.proofs.exists_join.ExistsJoin.add.Goals as goal

pub returns-in-Barred-clause-stands : goal.returns-in-Barred-clause-stands
returns-in-Barred-clause-stands c =
    let j = c.args.self.now in
    λ xs k s. rw c.in-Barred.is (keeps_barred j.list.items j.all_lost j.is_open j.has_exact j.best.list.items j.bound xs k)

pub returns-in-Lost-clause-stands : goal.returns-in-Lost-clause-stands
returns-in-Lost-clause-stands c =
    let j = c.args.self.now in
    λ xs k s. rw c.in-Lost.is (keeps_lost j.list.items j.all_lost j.is_open j.has_exact j.best.list.items j.bound xs k)
