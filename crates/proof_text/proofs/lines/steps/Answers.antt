use Rattle.std.proofs.lemmas.Result.{err_from_is_err_and}
use Rattle.proof_text.proofs.StepLines.{steps_fail}
use Rattle.proof_text.proofs.lines.steps.Goals as goal

pub returns-in_err-found-clause-err : goal.returns-in_err-found-clause-err
returns-in_err-found-clause-err c =
    let p = err_from_is_err_and c.from_residual.result c.from_residual.ensures.1 in
    rw (p.1, p.2) (steps_fail c.args.text.now c.loop-steps.rest.now c.in_err-found.field-0.0 c.loop-steps.invariant.goes c.in_err-found.ensures.err)
