use Rattle.std.proofs.lemmas.List.{nil_from_length}
use Rattle.best_text.proofs.Figures.{sign_ended}
use Rattle.best_text.proofs.numbers.signed.Goals as goal

pub returns-in_default-clause-err : goal.returns-in_default-clause-err
returns-in_default-clause-err c = sign_ended c.args.most c.args.end c.args.bytes.now (nil_from_length c.args.bytes.now c.in_default.ensures.cases)
