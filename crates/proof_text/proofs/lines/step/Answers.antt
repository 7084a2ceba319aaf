use Rattle.std.proofs.Common.{◌∙◌}
use Rattle.std.proofs.lemmas.Result.{err_from_is_err_and}
use Rattle.proof_text.proofs.StepLines.{prune_fails, bound_fails, prune_goes, bound_goes}
use Rattle.proof_text.proofs.lines.step.Goals as goal

pub returns-in_err-found-clause-err : goal.returns-in_err-found-clause-err
returns-in_err-found-clause-err c =
    let p = err_from_is_err_and c.from_residual.result c.from_residual.ensures.1 in
    rw (p.1, p.2) (prune_fails c.args.text.now c.in-Some.line.now c.in_err-found.field-0.0 c.in-Some.ensures c.in_err-found.ensures.err)

pub returns-in_err-found-2-clause-err : goal.returns-in_err-found-2-clause-err
returns-in_err-found-2-clause-err c =
    let p = err_from_is_err_and c.from_residual-in_err-found-2.result c.from_residual-in_err-found-2.ensures.1 in
    rw (p.1, p.2) (bound_fails c.args.text.now c.in-Some-after.line.now c.in_err-found-2.field-0.0 c.in-Some-after.ensures c.in_err-found-2.ensures.err)

pub returns-in-Some-clause-ok : goal.returns-in-Some-clause-ok
returns-in-Some-clause-ok c =
    let o = c.in_ok-found.ensures.ok in
    (c.in-Some.ensures ∙ o.0, o.1, prune_goes c.args.text.now c.in-Some.line.now c.in_ok-found.found.1.now c.in-Some.ensures o.3)

pub returns-in-Some-after-clause-ok : goal.returns-in-Some-after-clause-ok
returns-in-Some-after-clause-ok c =
    let o = c.in_ok-found-2.ensures.ok in
    (c.in-Some-after.ensures ∙ o.0, o.1, bound_goes c.args.text.now c.in-Some-after.line.now c.in_ok-found-2.found.1.now c.in-Some-after.ensures o.2)
