use Rattle.std.proofs.Common.{sym, subst}
use Rattle.qc_check.specs.Places.{IsTail}
use Rattle.qc_check.proofs.Places.{tail_self, tail_rest}
use Rattle.qc_check.proofs.starts.Starts.keep_below.Goals as goal

pub loop-start-init : goal.loop-start-init
loop-start-init c = tail_self c.args.self.now

pub loop-start-preserved : goal.loop-start-preserved
loop-start-preserved c =
    subst (λ ss. IsTail ss c.args.self.now) (sym c.pop.ensures) (tail_rest c.loop-start.self c.args.self.now c.loop-start.invariant)
