use Rattle.std.proofs.Common.{rules, ◌≡◌, sym, ◌∙◌, subst, true}
use Rattle.std.proofs.lemmas.Int.{to_z-of_z}
use mir.Val.{SFits}
use mir.Syntax.{w64}
use Rattle.qc_model.specs.Domains.{values_left}
use Rattle.qc_model.specs.Valid.{is_number}
use Rattle.qc_refuter.proofs.Fill.{least_to_greatest}
use Rattle.qc_refuter.proofs.Terms.{least_small, greatest_small}
use Rattle.dense_quiet.proofs.Shared.{same_range, in_order}
use Rattle.dense_quiet.proofs.reading.ends_of_variable.Goals as goal

pub invariant_of-result-clause-order : goal.invariant_of-result-clause-order
invariant_of-result-clause-order c =
    let f : SFits w64 c.min.result = search rules in
    let g : SFits w64 c.max.result = search rules in
    in_order _ _ _ _ (to_z-of_z w64 c.min.result f ∙ c.min.ensures) (to_z-of_z w64 c.max.result g ∙ c.max.ensures) (least_to_greatest (values_left c.args.store.now.box c.args.x.0))

pub invariant_of-result-clause-least_small : goal.invariant_of-result-clause-least_small
invariant_of-result-clause-least_small c =
    let f : SFits w64 c.min.result = search rules in
    subst (λ z. is_number z ≡ true) (sym (to_z-of_z w64 c.min.result f ∙ c.min.ensures)) (least_small (values_left c.args.store.now.box c.args.x.0) c.requires)

pub invariant_of-result-clause-greatest_small : goal.invariant_of-result-clause-greatest_small
invariant_of-result-clause-greatest_small c =
    let f : SFits w64 c.max.result = search rules in
    subst (λ z. is_number z ≡ true) (sym (to_z-of_z w64 c.max.result f ∙ c.max.ensures)) (greatest_small (values_left c.args.store.now.box c.args.x.0) c.requires)

pub returns : goal.returns
returns c =
    let f : SFits w64 c.min.result = search rules in
    let g : SFits w64 c.max.result = search rules in
    same_range _ _ _ _ (to_z-of_z w64 c.min.result f ∙ c.min.ensures) (to_z-of_z w64 c.max.result g ∙ c.max.ensures)
