use Rattle.std.proofs.Common.{arith}
use Rattle.prop_engine.proofs.Spared.{rest_stepped, got_below}
use Rattle.prop_engine.proofs.waking.wake_changed.Goals as goal

pub loop-step-preserved : goal.loop-step-preserved
loop-step-preserved c =
    let i = c.loop-step.invariant in
    let e = c.wake_all.ensures in
    record {
      waiting = e.waiting;
      inside = e.inside;
      hints = e.hints;
      count = e.count;
      kept = λ k m. e.kept k (i.kept k m);
      spared = λ k j s b o l p w. rest_stepped c.args.problem.now c.args.watches.now c.loop-step.list c.wake_all.new.list c.args.store.now.box c.args.steps.now c.loop-step.step-index k j _ s c.variable_of.result c.ends_moved.result c.loop-step-test.true e.kept
          c.variable_of.ensures c.ends_moved.ensures.least c.ends_moved.ensures.greatest l p w (λ a. i.spared k j s b o a p w) (λ a. e.spared k b o a);
    }

pub returns-clause-spared : goal.returns-clause-spared
returns-clause-spared c k i s b o p w =
    c.loop-step.invariant.spared k i s b o (omega (arith, got_below c.args.steps.now i s p, c.loop-step-test.false)) p w
