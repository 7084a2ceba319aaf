use Rattle.std.proofs.Common.{subst}
use Rattle.check_lines.specs.Machine.{game_of}
use Rattle.qc_check.specs.Checking.{IsCheckingBy}
use Rattle.qc_check.proofs.progress.Checker.finish.Goals as goal

pub returns-in-Some : goal.returns-in-Some
returns-in-Some c = λ bytes h. c.stopped.ensures (game_of c.args.self.now.machine) bytes (subst (λ s. IsCheckingBy s c.args.self.now bytes) c.in-Some.is h)
