use Rattle.std.proofs.Common.{◌∙◌, sym, ap, rules}
use Rattle.std.specs.Prelude.{nat_le, nat_lt}
use Rattle.std.proofs.lemmas.List.Sorted.{answers_always}
use Rattle.qc_model.proofs.Adjacent.{adjacent_answer, in_order-last, out_of_order}
use Rattle.qc_model.proofs.validity.order.aggregates_in_order.Goals as goal

pub returns-in-Some : goal.returns-in-Some
returns-in-Some c =
    let answer = adjacent_answer (λ x y. nat_le x.scope.0 y.scope.0) c.args.aggregates.now c.is_sorted_by.result (c.is_sorted_by.ensures.cases (λ x y. nat_le x.scope.0 y.scope.0) (answers_always _ _ _ (λ f a r g called. search rules))) in
    let some = c.in-Some.ensures.item.3 in
    ap (λ x. nat_lt x.scope.0 c.args.n) (some.1 c.in-Some.q.now)
    ∙ in_order-last (λ x. x.scope.0) c.args.n c.args.aggregates.now c.in-Some.q.now some.0 (sym c.if-is_sorted_by.true ∙ answer)

pub returns-else-is_sorted_by : goal.returns-else-is_sorted_by
returns-else-is_sorted_by c =
    let answer = adjacent_answer (λ x y. nat_le x.scope.0 y.scope.0) c.args.aggregates.now c.is_sorted_by.result (c.is_sorted_by.ensures.cases (λ x y. nat_le x.scope.0 y.scope.0) (answers_always _ _ _ (λ f a r g called. search rules))) in
    c.if-is_sorted_by.false ∙ out_of_order (λ x. x.scope.0) c.args.n c.args.aggregates.now (sym c.if-is_sorted_by.false ∙ answer)
