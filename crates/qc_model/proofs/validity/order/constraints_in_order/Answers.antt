use Rattle.std.proofs.Common.{◌∙◌, sym, ap, rules}
use Rattle.std.specs.Prelude.{nat_le, nat_lt}
use Rattle.std.proofs.lemmas.List.Sorted.{answers_always}
use Rattle.qc_model.proofs.Adjacent.{adjacent_answer, in_order-last, out_of_order}
use Rattle.qc_model.proofs.validity.order.constraints_in_order.Goals as goal

pub returns-in-Some : goal.returns-in-Some
returns-in-Some c =
    let answer = adjacent_answer (λ x y. nat_le x.owner.0 y.owner.0) c.args.constraints.now c.is_sorted_by.result (c.is_sorted_by.ensures.cases (λ x y. nat_le x.owner.0 y.owner.0) (answers_always _ _ _ (λ f a r g called. search rules))) in
    let some = c.in-Some.ensures.item.3 in
    ap (λ x. nat_lt x.owner.0 c.args.n) (c.c.view_is ∙ some.1 c.in-Some.c.now)
    ∙ in_order-last (λ x. x.owner.0) c.args.n c.args.constraints.now c.in-Some.c.now some.0 (sym c.if-is_sorted_by.true ∙ answer)

pub returns-else-is_sorted_by : goal.returns-else-is_sorted_by
returns-else-is_sorted_by c =
    let answer = adjacent_answer (λ x y. nat_le x.owner.0 y.owner.0) c.args.constraints.now c.is_sorted_by.result (c.is_sorted_by.ensures.cases (λ x y. nat_le x.owner.0 y.owner.0) (answers_always _ _ _ (λ f a r g called. search rules))) in
    c.if-is_sorted_by.false ∙ out_of_order (λ x. x.owner.0) c.args.n c.args.constraints.now (sym c.if-is_sorted_by.false ∙ answer)
