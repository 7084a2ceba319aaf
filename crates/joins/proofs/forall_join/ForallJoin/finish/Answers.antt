use Rattle.std.proofs.Common.{ap, ◌∙◌}
use Rattle.qc_model.specs.Verdict.{exact}
use Rattle.qc_model.specs.Demands.{demands}
use Rattle.joins.specs.Columns.{values_by}
use Rattle.joins.proofs.ForallVerdicts.{exact_is}
use Rattle.joins.proofs.forall_join.ForallJoin.finish.Goals as goal

pub returns-then-self-2-clause-verdict : goal.returns-then-self-2-clause-verdict
returns-then-self-2-clause-verdict c =
    let j = c.args.self.now in
    λ g i xs s k.
    ap exact (c.hand_out.ensures.items ∙ ap (values_by c.args.values.now) c.as_slice.ensures.value)
    ∙ exact_is g (demands g i) c.args.values.now j.columns.items j.any_lost j.all_exact j.all_known j.has_exact j.any_known j.known xs c.if-self.false c.if-self-2.true s.sources k
