use Rattle.std.proofs.Common.{sym, ap, ◌∙◌}
use Rattle.qc_model.specs.Verdict.{exact}
use Rattle.qc_model.specs.ExistsVerdict.{without_own}
use Rattle.joins.proofs.ExistsVerdicts.{when_settled, when_unsettled}
use Rattle.joins.proofs.exists_join.ExistsJoin.finish.Goals as goal

pub returns-then-has_best-clause-verdict : goal.returns-then-has_best-clause-verdict
returns-then-has_best-clause-verdict c =
    let j = c.args.self.now in
    λ xs k.
    ap exact (c.set.ensures.items ∙ c.without_own.ensures ∙ ap (without_own j.condition) c.items.ensures)
    ∙ when_settled j.condition j.list.items j.all_lost j.is_open j.has_exact j.best.list.items j.bound xs (sym c.has_best.ensures ∙ c.if-has_best.true) k

pub returns-else-has_best-clause-verdict : goal.returns-else-has_best-clause-verdict
returns-else-has_best-clause-verdict c =
    let j = c.args.self.now in
    λ xs k.
    c.unsettled.ensures.verdict c.args.out.now.list.items
    ∙ when_unsettled j.condition j.list.items j.all_lost j.is_open j.has_exact j.best.list.items j.bound xs (sym c.has_best.ensures ∙ c.if-has_best.false) k
