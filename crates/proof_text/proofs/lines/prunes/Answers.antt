use Rattle.std.proofs.lemmas.Result.{err_from_is_err_and}
use Rattle.proof_text.proofs.StepLines.{prunes_fail}
use Rattle.proof_text.proofs.lines.prunes.Goals as goal

pub returns-in_err-rest-clause-err : goal.returns-in_err-rest-clause-err
returns-in_err-rest-clause-err c =
    let p = err_from_is_err_and c.from_residual-in_err-rest.result c.from_residual-in_err-rest.ensures.1 in
    rw (p.1, p.2) (prunes_fail c.args.text.now c.loop-line.rest.now c.in_err-rest.field-0.0 c.loop-line.invariant.goes c.in_default.ensures c.in_err-rest.ensures.err)
