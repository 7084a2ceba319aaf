use Rattle.std.proofs.lemmas.Result.{IfErr-weaker}
use Rattle.best_text.proofs.Sequence.{head_first, head_second}
use Rattle.best_text.proofs.head.head_parts.Goals as goal

pub returns-in-Ok-clause-err : goal.returns-in-Ok-clause-err
returns-in-Ok-clause-err c = IfErr-weaker c.value_parts.result _ _ (λ left s. head_second c.args.bytes.now c.in-Ok.rest.now left c.in-Ok.ensures.ok s) c.value_parts.ensures.err

pub returns-in-Err-clause-err : goal.returns-in-Err-clause-err
returns-in-Err-clause-err c = head_first c.args.bytes.now c.in-Err.left c.in-Err.ensures.err
