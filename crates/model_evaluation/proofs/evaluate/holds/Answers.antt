use Rattle.qc_model.specs.Valid.{is_constraint}
use Rattle.model_evaluation.proofs.Readable.{passes_at}
use Rattle.model_evaluation.proofs.evaluate.holds.Goals as goal

pub satisfies-requires-clause-rule : goal.satisfies-requires-clause-rule
satisfies-requires-clause-rule c =
    passes_at (is_constraint c.args.problem.now.variables) c.args.problem.now.constraints c.args.c.0 c.constraint.result.now c.known.ensures.constraints c.constraint.ensures
