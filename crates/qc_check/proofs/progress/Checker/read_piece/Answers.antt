use Rattle.std.proofs.Common.{subst, sym, ◌++◌}
use Rattle.qc_check.specs.Checking.{IsCheckingBy}
use Rattle.qc_check.proofs.Steps.{still_stopped}
use Rattle.qc_check.proofs.progress.Checker.read_piece.Goals as goal

pub returns-in-Some-clause-checking : goal.returns-in-Some-clause-checking
returns-in-Some-clause-checking c = λ before h.
    subst (λ s. IsCheckingBy s c.args.self.now (before ++ c.args.bytes.now)) (sym c.in-Some.is)
    (still_stopped _ _ before c.args.bytes.now (subst (λ s. IsCheckingBy s c.args.self.now before) c.in-Some.is h))
