use Rattle.std.proofs.Common.{◌≡◌, [], ◌∷◌, ◌++◌, sym, subst}
use Rattle.std.specs.Prelude.{pos}
use Rattle.qc_model.specs.Refuted.{left_to}
use Rattle.prop_bool.specs.Literals.{both_truths}
use Rattle.prop_bool.specs.Parities.{IsTally, opened}
use Rattle.prop_bool.proofs.Truths.{only_is}
use Rattle.prop_bool.proofs.Counting.{with_zero, with_one, with_unfixed}
use Rattle.prop_bool.proofs.tallies.with_item.Goals as goal

pub returns-in-Fails : goal.returns-in-Fails
returns-in-Fails c = λ xs h. with_zero c.args.tally c.args.store.now.box xs c.args.item (only_is (pos 0) (left_to c.args.store.now.box c.args.item) c.in-Fails.ensures) h

pub returns-in-Holds : goal.returns-in-Holds
returns-in-Holds c =
    let box = c.args.store.now.box in
    λ xs h. subst (λ t. IsTally t box (xs ++ c.args.item ∷ [])) (sym c.with_one.ensures) (with_one c.args.tally box xs c.args.item (only_is (pos 1) (left_to box c.args.item) c.in-Holds.ensures) h)

pub returns-in-Var : goal.returns-in-Var
returns-in-Var c =
    let box = c.args.store.now.box in
    let y = c.in-Var.y in
    let u = subst (λ a. left_to box a ≡ both_truths) c.in-Var.is c.in-Unfixed.ensures in
    λ xs h. subst (λ t. IsTally t box (xs ++ c.args.item ∷ [])) (sym c.with_unfixed.ensures)
    (subst (λ a. IsTally (opened c.args.tally y) box (xs ++ a ∷ [])) (sym c.in-Var.is) (with_unfixed c.args.tally box xs y u h))
