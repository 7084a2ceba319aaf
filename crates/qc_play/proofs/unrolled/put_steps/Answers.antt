use Rattle.std.proofs.Common.{arith}
use Rattle.qc_play.proofs.Putting.{step_put, steps_put}
use Rattle.qc_play.proofs.unrolled.put_steps.Goals as goal

pub loop-step-init : goal.loop-step-init
loop-step-init c = λ end k. k

pub loop-step-preserved : goal.loop-step-preserved
loop-step-preserved c = λ end k. c.loop-step.invariant end (step_put _ _ end c.args.steps.now c.loop-step.step-index _ c.loop-step-test.true c.in_ok-put_step.ensures k)

pub returns : goal.returns
returns c = c.loop-step.invariant _ (steps_put c.loop-step.lines.items c.args.steps.now c.loop-step.step-index (omega (arith, c.loop-step-test.false)))
