use Rattle.std.proofs.Common.{[], Some, sym, subst}
use Rattle.dense_ledger.specs.Ledger.{first_ledger}
use Rattle.dense_check.specs.Telling.{Tells}
use Rattle.dense_judge.proofs.Steps.{nothing_read}
use Rattle.dense_judge.proofs.progress.DenseChecker.new.Goals as goal

pub returns-clause-checking : goal.returns-clause-checking
returns-clause-checking c =
    nothing_read _ _ _ c.new-3.ensures c.in_ok-gather.ensures (subst (λ g. Tells c.in_ok-machine.machine (first_ledger g)) (sym c.in_ok-machine.ensures.same) c.in_ok-machine.ensures.tells)
    (c.each_standing_is_right.ensures []).begins

pub returns-clause-ready : goal.returns-clause-ready
returns-clause-ready c = (Some (first_ledger c.args.problem.now), c.in_ok-machine.ensures.tells)
