use Rattle.std.proofs.Common.{◌∙◌, ap, sym}
use Rattle.qc_model.specs.Valid.{is_constraint as is_constraint_of}
use Rattle.qc_model.proofs.AllOfTwo.{both_then}
use Rattle.qc_model.proofs.validity.arguments.is_constraint.Goals as goal

pub returns-then-fit_predicate : goal.returns-then-fit_predicate
returns-then-fit_predicate c =
    both_then _ _ _ (sym c.fit_predicate.ensures ∙ c.if-fit_predicate.true) c.arguments_see.ensures
    ∙ ap (λ all. is_constraint_of c.args.variables.now (record { owner = c.constraint.inside.owner; pred = c.constraint.inside.pred; args = all })) c.as_slice-args.ensures.value
    ∙ ap (λ r. is_constraint_of c.args.variables.now r) c.constraint.view_is
