use Rattle.std.proofs.Common.{subst}
use Rattle.lemma_check.specs.Machine.{game_of}
use Rattle.lemma_judge.specs.Checking.{IsCheckingBy}
use Rattle.lemma_judge.proofs.progress.ListChecker.finish.Goals as goal

pub returns-in-Some : goal.returns-in-Some
returns-in-Some c = λ bytes h. c.stopped.ensures (game_of c.args.self.now.machine) bytes (subst (λ s. IsCheckingBy s c.args.self.now bytes) c.in-Some.is h)
