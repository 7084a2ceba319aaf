use Rattle.std.proofs.Common.{sym, ◌∙◌}
use Rattle.std.proofs.lemmas.Int.{to_z-of_z}
use Rattle.qc_model.specs.declared.problem.Kind.TheVariants.{Exists}
use Rattle.zero_sum.proofs.Steps.{defaults_step, defaults_variable, defaults_more, defaults_not}
use Rattle.zero_sum.proofs.defaults.+defaults_from.Goals as goal

pub returns-in-Exists : goal.returns-in-Exists
returns-in-Exists t c =
    let fits = c.ranges.v in
    (simp to_z-of_z at c.defaults_from.ensures) ∙ sym (defaults_step c.args.problem.now c.args.sense c.args.v c.args.i c.scope.result.now Exists c.args.target c.scope.ensures c.in-Exists.is)

pub returns-in-Var : goal.returns-in-Var
returns-in-Var t c =
    defaults_variable c.args.problem.now c.args.sense c.args.v c.args.i c.scope.result.now c.args.target c.in-Var.field-0 c.scope.ensures c.in-Forall.is c.in-Var.is

pub returns-then-default_fits : goal.returns-then-default_fits
returns-then-default_fits t c =
    let fits = c.ranges.v in
    defaults_more c.args.problem.now c.args.sense c.args.v c.args.i c.scope.result.now c.args.target c.in-Aggregate.q c.default_fits.result c.scope.ensures c.in-Forall.is c.in-Aggregate.is (simp to_z-of_z at c.default_fits.ensures)
    c.inner_target.result c.defaults_from-then-default_fits.result c.if-default_fits.true c.inner_target.ensures (simp to_z-of_z at c.defaults_from-then-default_fits.ensures)

pub returns-else-default_fits : goal.returns-else-default_fits
returns-else-default_fits t c =
    let fits = c.ranges.v in
    defaults_not c.args.problem.now c.args.sense c.args.v c.args.i c.scope.result.now c.args.target c.in-Aggregate.q c.default_fits.result c.scope.ensures c.in-Forall.is c.in-Aggregate.is (simp to_z-of_z at c.default_fits.ensures)
    c.if-default_fits.false
