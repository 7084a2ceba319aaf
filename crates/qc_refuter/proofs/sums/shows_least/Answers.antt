use Rattle.std.proofs.Common.{◌≡◌, subst, true}
use Rattle.qc_model.specs.Domains.{Values, values_left, is_within}
use Rattle.model_arguments.proofs.Kept.{some_of, least_kept}
use Rattle.qc_refuter.specs.Met.{is_domain_left}
use Rattle.qc_refuter.proofs.Seen.{left_here}
use Rattle.qc_refuter.proofs.Terms.{some_left}
use Rattle.qc_refuter.proofs.sums.shows_least.Goals as goal

pub min-requires-clause-left : goal.min-requires-clause-left
min-requires-clause-left c =
    let v = c.args.view.now in
    let vs = values_left v.store.now.box c.in-Var.y.0 in
    let here = left_here v.store.now.box v.x.0 v.lo v.hi c.args.item c.in-Var.y c.in-Var.is c.if-y-view.true in
    let left = subst (λ (d : Values). is_domain_left d ≡ true) here c.requires in
    some_of vs _ (least_kept (is_within v.lo v.hi) vs (some_left _ left)).1
