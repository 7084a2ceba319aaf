use Rattle.best_text.proofs.Figures.{positive_stuck}
use Rattle.best_text.proofs.numbers.positive.Goals as goal

pub returns-in-Err-clause-err : goal.returns-in-Err-clause-err
returns-in-Err-clause-err c = positive_stuck c.args.most c.args.end c.args.bytes.now c.in-Err.left c.requires.first c.in-Err.ensures.err
