use Rattle.std.proofs.Common.{◌≡◌, ◌∙◌, sym, ap, subst, length}
use Rattle.std.specs.List.Sorted.{IsNonDecreasingBy}
use Rattle.qc_model.proofs.InOrder.{in_order_rises, below_up, part_equal}
use Rattle.qc_model.proofs.validity.sight.aggregates_in.Goals as goal

pub aggregates_below-from-requires : goal.aggregates_below-from-requires
aggregates_below-from-requires c =
    let opened : c.args.draft.now.aggregates ≡ c.draft.inside.aggregates.items = ap (λ g. g.aggregates) (sym c.draft.view_is) in
    rw c.as_slice-all.ensures.value (subst (λ xs. IsNonDecreasingBy (λ x. x.scope.0) xs) opened (in_order_rises (λ x. x.scope.0) (length c.args.draft.now.scopes) c.args.draft.now.aggregates c.requires.in_order))

pub aggregates_below-to-requires : goal.aggregates_below-to-requires
aggregates_below-to-requires c =
    let opened : c.args.draft.now.aggregates ≡ c.draft.inside.aggregates.items = ap (λ g. g.aggregates) (sym c.draft.view_is) in
    rw c.as_slice-all.ensures.value (subst (λ xs. IsNonDecreasingBy (λ x. x.scope.0) xs) opened (in_order_rises (λ x. x.scope.0) (length c.args.draft.now.scopes) c.args.draft.now.aggregates c.requires.in_order))

pub overflow_sub-to : goal.overflow_sub-to
overflow_sub-to c = rw (c.aggregates_below-from.ensures.count, c.aggregates_below-to.ensures.count) (below_up (λ x. x.scope.0) c.args.i c.as_slice-all.result.now)

pub returns : goal.returns
returns c =
    let opened = c.as_slice-all.ensures.value ∙ ap (λ g. g.aggregates) c.draft.view_is in
    rw (c.split_at-2.ensures.front, c.split_at.ensures.back, c.aggregates_below-from.ensures.count, c.aggregates_below-to.ensures.count, opened)
    (part_equal (λ x. x.scope.0) (length c.args.draft.now.scopes) c.args.i c.args.draft.now.aggregates c.requires.in_order)
