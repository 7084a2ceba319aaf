use Rattle.best_text.proofs.Sequence.{numbers_first, numbers_second}
use Rattle.best_text.proofs.head.value_parts.Goals as goal

pub returns-in-Err-count-clause-err : goal.returns-in-Err-count-clause-err
returns-in-Err-count-clause-err c = numbers_second c.args.bytes.now c.in-Ok.rest.now c.in-Err-count.left _ c.in-Ok.ensures.ok.0 c.in-Ok.ensures.ok.1 c.in-Err-count.ensures.err

pub returns-in-Err-clause-err : goal.returns-in-Err-clause-err
returns-in-Err-clause-err c = numbers_first c.args.bytes.now c.in-Err.left c.in-Err.ensures.err
