use Rattle.std.proofs.Common.{◌≡◌}
use Rattle.std.proofs.lemmas.Int.{to_z-of_z}
use Rattle.joins.specs.Bests.{bound_in}
use Rattle.joins.proofs.Bests.{keeps_bound}
use Rattle.joins.proofs.exists_join.ExistsJoin.add_bound.Goals as goal

pub returns-clause-stands : goal.returns-clause-stands
returns-clause-stands c =
    let fits = c.ranges.best in
    let j = c.args.self.now in
    let e : c.bound_in-self.result ≡ bound_in j.list.items j.bound c.args.best = simp (to_z-of_z, c.as_slice.ensures.value) at c.bound_in-self.ensures in
    λ xs k. rw e (keeps_bound j.list.items j.all_lost j.is_open j.has_exact j.best.list.items j.bound xs c.args.best k)
