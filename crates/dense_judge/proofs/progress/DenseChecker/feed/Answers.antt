use Rattle.dense_judge.proofs.Steps.{passed_over}
use Rattle.dense_judge.proofs.progress.DenseChecker.feed.Goals as goal

pub returns-in_ok-pass_over-in-Some-clause-checking : goal.returns-in_ok-pass_over-in-Some-clause-checking
returns-in_ok-pass_over-in-Some-clause-checking c = λ before h. passed_over c.args.self.now c.in-Some.stop before c.args.bytes.now c.in-Some.is h
