use Rattle.std.proofs.Common.{◌∙◌, sym, bytes_eq}
use Rattle.qc_model.proofs.AllOfTwo.{either_then, either_else, any_of_two}
use Rattle.qc_model.proofs.validity.names.has_name.Goals as goal

pub returns-then-variable_has_name : goal.returns-then-variable_has_name
returns-then-variable_has_name c =
    either_then _ _ _ (sym c.variable_has_name.ensures ∙ c.if-variable_has_name.true) c.variable_has_name.ensures
    ∙ sym (any_of_two (λ x. x.name) (λ q. q.name) (bytes_eq c.args.name.now) c.args.variables.now c.args.aggregates.now)

pub returns-else-variable_has_name : goal.returns-else-variable_has_name
returns-else-variable_has_name c =
    either_else _ _ _ (sym c.variable_has_name.ensures ∙ c.if-variable_has_name.false) c.aggregate_has_name.ensures
    ∙ sym (any_of_two (λ x. x.name) (λ q. q.name) (bytes_eq c.args.name.now) c.args.variables.now c.args.aggregates.now)
