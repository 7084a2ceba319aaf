use Rattle.std.proofs.Common.{◌≡◌, ◌∙◌, true, sym, subst, arith, length, List}
use Rattle.qc_model.specs.declared.problem.Argument.{Argument}
use Rattle.qc_model.specs.Arguments.{variables_of}
use Rattle.qc_model.specs.Lists.{same_values}
use Rattle.likeness.specs.Seeing.{values_of}
use Rattle.dense_alike.proofs.Satisfying.{clause_alike}
use Rattle.dense_alike.proofs.clauses.has_same_values.Goals as goal

pub returns : goal.returns
returns c = λ h known.
    let here = c.args.here.now in
    let there = c.args.there.now in
    let size : length here ≡ length there = omega (arith, c.if-here-there.false) in
    let own =
    subst (λ (args : List Argument). same_values (values_of here (variables_of args)) (values_of there (variables_of args)) ≡ true) c.arguments.ensures (sym c.are_values_same.ensures ∙ h) in
    clause_alike here there c.args.rule.now size own known
