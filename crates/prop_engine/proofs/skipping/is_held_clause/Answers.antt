use Rattle.std.proofs.Common.{◌≡◌, ◌∙◌, false, sym, ap, subst}
use Rattle.std.specs.Prelude.{pos}
use Rattle.std.specs.List.{list_all}
use Rattle.qc_model.specs.Domains.{Box}
use Rattle.qc_model.specs.Left.{is_only}
use Rattle.qc_model.specs.Refuted.{left_to}
use Rattle.model_arguments.specs.Written.{args_at}
use Rattle.prop_engine.proofs.Passed.{plain_keeps, negated_keeps}
use Rattle.prop_engine.proofs.skipping.is_held_clause.Goals as goal

pub returns-then-some_holds : goal.returns-then-some_holds
returns-then-some_holds c t =
    let same = c.items_at.ensures ∙ ap (λ a. args_at a 0) c.arguments.ensures in
    plain_keeps c.args.rule.now (ap (λ r. r.pred) (sym c.rule.view_is) ∙ c.in-BoolClause.is)
    (subst (λ xs. (box : Box) → list_all (λ a. is_only (pos 0) (left_to box a)) xs ≡ false) same (c.some_holds.ensures c.if-some_holds.true))

pub returns-in-BoolClause : goal.returns-in-BoolClause
returns-in-BoolClause c t =
    let same = c.items_at-in-BoolClause.ensures ∙ ap (λ a. args_at a 1) c.arguments-in-BoolClause.ensures in
    negated_keeps c.args.rule.now (ap (λ r. r.pred) (sym c.rule.view_is) ∙ c.in-BoolClause.is)
    (subst (λ xs. (box : Box) → list_all (λ a. is_only (pos 1) (left_to box a)) xs ≡ false) same (c.some_holds-in-BoolClause.ensures t))
