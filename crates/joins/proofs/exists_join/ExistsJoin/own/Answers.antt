use Rattle.std.proofs.Common.{◌≡◌, Some, sym, ap, ◌∙◌, rules}
use Rattle.std.proofs.lemmas.Int.{to_z-of_z}
use mir.Val.{SFits}
use mir.Syntax.{w64}
use Rattle.qc_model.specs.Verdict.{first_value}
use Rattle.joins.proofs.ExistsVerdicts.{own_settled, own_unsettled}
use Rattle.joins.proofs.exists_join.ExistsJoin.own.Goals as goal

pub returns-then-has_best : goal.returns-then-has_best
returns-then-has_best c =
    let j = c.args.self.now in
    let fits : SFits w64 c.first_value.result = search rules in
    let e : c.first_value.result ≡ first_value j.best.list.items = c.first_value.ensures ∙ ap first_value c.items.ensures in
    λ xs k. simp to_z-of_z (ap Some e ∙ own_settled j.condition c.in-Some.field-0 j.list.items j.all_lost j.is_open j.has_exact j.best.list.items j.bound xs c.in-Some.is (sym c.has_best.ensures ∙ c.if-has_best.true) k)

pub returns-else-has_best : goal.returns-else-has_best
returns-else-has_best c =
    let j = c.args.self.now in
    λ xs k. own_unsettled j.condition j.list.items j.all_lost j.is_open j.has_exact j.best.list.items j.bound xs (sym c.has_best.ensures ∙ c.if-has_best.false) k
