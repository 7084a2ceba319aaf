use Rattle.std.proofs.Common.{arith}
use Rattle.qc_check.proofs.Given.{step_taken, steps_end}
use Rattle.qc_check.proofs.giving.give_steps.Goals as goal

pub loop-step-init : goal.loop-step-init
loop-step-init c = record { ready = c.requires.ready; takes = λ end k. k }

pub loop-step-preserved : goal.loop-step-preserved
loop-step-preserved c = record {
  ready = c.give_step.ensures.ready;
  takes = λ end k. c.loop-step.invariant.takes end (step_taken _ _ end c.args.steps.now c.loop-step.step-index _ c.loop-step-test.true c.give_step.ensures.takes k);
}

pub returns-clause-takes : goal.returns-clause-takes
returns-clause-takes c = c.loop-step.invariant.takes _ (steps_end c.loop-step.space c.args.steps.now c.loop-step.step-index (omega (arith, c.loop-step-test.false)))
