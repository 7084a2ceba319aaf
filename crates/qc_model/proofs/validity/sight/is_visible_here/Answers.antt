use Rattle.std.proofs.Common.{◌≡◌, sym, ap, subst, length}
use Rattle.std.specs.List.Sorted.{IsNonDecreasingBy}
use Rattle.qc_model.proofs.InOrder.{in_order_rises}
use Rattle.qc_model.proofs.validity.sight.is_visible_here.Goals as goal

pub variables_below-requires : goal.variables_below-requires
variables_below-requires c =
    let opened : c.args.draft.now.variables ≡ c.draft.inside.variables.items = ap (λ g. g.variables) (sym c.draft.view_is) in
    rw c.as_slice.ensures.value (subst (λ xs. IsNonDecreasingBy (λ x. x.scope.0) xs) opened (in_order_rises (λ x. x.scope.0) (length c.args.draft.now.scopes) c.args.draft.now.variables c.requires))
