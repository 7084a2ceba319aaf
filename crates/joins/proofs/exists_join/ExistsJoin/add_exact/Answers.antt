use Rattle.std.proofs.Common.{◌≡◌, ap, ◌∙◌}
use Rattle.joins.specs.Bests.{kept_vector}
use Rattle.joins.proofs.Bests.{keeps_exact}
use Rattle.joins.proofs.exists_join.ExistsJoin.add_exact.Goals as goal

pub returns-clause-stands : goal.returns-clause-stands
returns-clause-stands c =
    let j = c.args.self.now in
    let e : c.keep_better.new.best.list.items ≡ kept_vector j.list.items j.has_exact j.best.list.items c.args.vector.now = c.keep_better.ensures.kept ∙ ap (λ d. kept_vector d j.has_exact j.best.list.items c.args.vector.now) c.as_slice.ensures.value in
    λ xs k. rw e (keeps_exact j.list.items j.all_lost j.is_open j.has_exact j.best.list.items j.bound xs c.args.vector.now c.requires k)
