use Rattle.std.proofs.Common.{refl}
use Rattle.qc_check.proofs.Ending.{still_settling}
use Rattle.qc_check.proofs.progress.Checker.end_node.Goals as goal

pub returns-clause-settling : goal.returns-clause-settling
returns-clause-settling c = λ before k.
    still_settling c.args.self.now _ refl refl refl c.leave_node.ensures.same c.leave_node.ensures.tells before c.args.bytes.now c.args.at c.keep_below.ensures.tail k
