use Rattle.std.proofs.Common.{refl}
use Rattle.best_text.proofs.Figures.{zero_told, zero_stuck}
use Rattle.best_text.proofs.numbers.zero.Goals as goal

pub returns-in-Ok-clause-ok : goal.returns-in-Ok-clause-ok
returns-in-Ok-clause-ok c = (zero_told c.args.end c.args.bytes.now c.in-Ok.rest.now c.in-Ok.ensures.ok, refl)

pub returns-in-Err-clause-err : goal.returns-in-Err-clause-err
returns-in-Err-clause-err c = λ most big. zero_stuck most c.args.end c.args.bytes.now c.in-Err.left big c.in-Err.ensures.err
