use Rattle.std.proofs.Common.{◌∙◌, sym}
use Rattle.qc_model.specs.Names.{is_name}
use Rattle.qc_model.proofs.AllOfTwo.{both_then, both_else, all_of_two}
use Rattle.qc_model.proofs.validity.names.are_names.Goals as goal

pub returns-then-variables_have_names : goal.returns-then-variables_have_names
returns-then-variables_have_names c =
    both_then _ _ _ (sym c.variables_have_names.ensures ∙ c.if-variables_have_names.true) c.aggregates_have_names.ensures
    ∙ all_of_two (λ x. x.name) (λ q. q.name) is_name c.args.variables.now c.args.aggregates.now

pub returns-else-variables_have_names : goal.returns-else-variables_have_names
returns-else-variables_have_names c =
    both_else _ _ _ (sym c.variables_have_names.ensures ∙ c.if-variables_have_names.false) c.variables_have_names.ensures
    ∙ all_of_two (λ x. x.name) (λ q. q.name) is_name c.args.variables.now c.args.aggregates.now
