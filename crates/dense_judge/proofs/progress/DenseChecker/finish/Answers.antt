use Rattle.std.proofs.Common.{subst}
use Rattle.dense_check.specs.Telling.{game_of}
use Rattle.dense_judge.specs.Checking.{IsCheckingBy}
use Rattle.dense_judge.proofs.progress.DenseChecker.finish.Goals as goal

pub returns-in-Some : goal.returns-in-Some
returns-in-Some c = λ bytes h. c.stopped.ensures (game_of c.args.self.now.machine) bytes (subst (λ s. IsCheckingBy s c.args.self.now bytes) c.in-Some.is h)
