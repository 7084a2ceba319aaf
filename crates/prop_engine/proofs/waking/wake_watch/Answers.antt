use Rattle.std.proofs.Common.{subst}
use Rattle.prop_engine.specs.Watching.{IsNow}
use Rattle.prop_engine.proofs.Open.{one_kept, zero_kept}
use Rattle.prop_engine.proofs.Spared.{spared_rests, kept_rests, least_rests, greatest_rests}
use Rattle.prop_engine.proofs.waking.wake_watch.Goals as goal

pub returns-in-One-now-clause-spared : goal.returns-in-One-now-clause-spared
returns-in-One-now-clause-spared c b o =
    let box = c.args.store.now.box in
    kept_rests c.args.problem.now c.args.list.now box c.args.moved c.args.x.0 c.args.watch.c.0
    (one_kept c.args.problem.now c.args.x.0 c.args.watch box c.requires.right c.in-One.is (subst (λ n. IsNow n box c.args.x.0) c.in-One-now.is c.requires.now))

pub returns-in-Zero-now-clause-spared : goal.returns-in-Zero-now-clause-spared
returns-in-Zero-now-clause-spared c b o =
    let box = c.args.store.now.box in
    kept_rests c.args.problem.now c.args.list.now box c.args.moved c.args.x.0 c.args.watch.c.0
    (zero_kept c.args.problem.now c.args.x.0 c.args.watch box c.requires.right c.in-Zero.is (subst (λ n. IsNow n box c.args.x.0) c.in-Zero-now.is c.requires.now))

pub returns-in_default-clause-spared : goal.returns-in_default-clause-spared
returns-in_default-clause-spared c b o =
    spared_rests c.args.problem.now c.wake_one.new.list c.args.store.now.box c.args.moved c.args.x.0 c.args.watch.c.0 (c.wake_one.ensures.spared b o)

pub returns-in_default-now-clause-spared : goal.returns-in_default-now-clause-spared
returns-in_default-now-clause-spared c b o =
    spared_rests c.args.problem.now c.wake_one-in_default-now.new.list c.args.store.now.box c.args.moved c.args.x.0 c.args.watch.c.0 (c.wake_one-in_default-now.ensures.spared b o)

pub returns-else-moved-clause-spared : goal.returns-else-moved-clause-spared
returns-else-moved-clause-spared c b o =
    least_rests c.args.problem.now c.args.list.now c.args.store.now.box c.args.moved c.args.x.0 c.args.watch c.requires.right c.in-Least.is c.if-moved.false

pub returns-else-moved-2-clause-spared : goal.returns-else-moved-2-clause-spared
returns-else-moved-2-clause-spared c b o =
    greatest_rests c.args.problem.now c.args.list.now c.args.store.now.box c.args.moved c.args.x.0 c.args.watch c.requires.right c.in-Greatest.is c.if-moved-2.false
