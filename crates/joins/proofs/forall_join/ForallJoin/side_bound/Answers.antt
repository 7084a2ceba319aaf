use Rattle.std.proofs.Common.{◌∙◌}
use Rattle.qc_model.specs.Demands.{demands}
use Rattle.joins.proofs.ForallVerdicts.{side_is_bound}
use Rattle.joins.proofs.forall_join.ForallJoin.side_bound.Goals as goal

pub returns : goal.returns
returns c =
    let j = c.args.self.now in
    λ g i xs s k. c.side.ensures ∙ side_is_bound g (demands g i) j.sense j.columns.items j.any_lost j.all_exact j.all_known j.has_exact j.any_known j.known xs s.sources s.sense k
