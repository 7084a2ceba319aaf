use Rattle.best_text.proofs.Figures.{negative_stuck}
use Rattle.best_text.proofs.numbers.negative.Goals as goal

pub returns-in-Err-clause-err : goal.returns-in-Err-clause-err
returns-in-Err-clause-err c = negative_stuck c.args.most c.args.end c.args.bytes.now c.in-Err.left c.requires.1 c.in-Err.ensures.err
