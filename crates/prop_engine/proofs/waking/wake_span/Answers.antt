use Rattle.std.proofs.Common.{◌≤◌, ◌+◌, refl, sym, subst, arith}
use Rattle.prop_engine.specs.Skipping.{ArePassed}
use Rattle.prop_engine.proofs.Passed.{inside_span, spared_first, spared_passed}
use Rattle.prop_engine.proofs.waking.wake_span.Goals as goal

pub loop-k-init : goal.loop-k-init
loop-k-init c =
    let first = c.args.span.first in
    let e = sym c.from-k.ensures in
    record {
      waiting = c.requires.waiting;
      inside = c.requires.inside;
      hints = c.requires.hints;
      count = c.requires.count;
      from = subst (λ n. first ≤ n) e (c.requires.skips.forward first);
      spared = λ j l m. spared_first c.args.problem.now c.args.list.now c.args.store.now.box first c.from-k.result j (subst (λ n. ArePassed c.args.problem.now first n) e (c.requires.skips.passed first)) l m;
    }

pub loop-k-preserved : goal.loop-k-preserved
loop-k-preserved c =
    let i = c.loop-k.invariant in
    let w = c.wake_one.ensures in
    let k = c.loop-k.k in
    let next = c.from-k-in-loop-k.result in
    let e = sym c.from-k-in-loop-k.ensures in
    let forward : k + 1 ≤ next = subst (λ n. k + 1 ≤ n) e (c.requires.skips.forward (k + 1)) in
    record {
      waiting = w.waiting;
      inside = w.inside;
      hints = w.hints;
      count = w.count;
      from = omega (arith, i.from, forward);
      spared = λ j l m. spared_passed c.args.problem.now c.loop-k.list c.wake_one.new.list c.args.store.now.box k next j w.kept (i.spared j l) (w.spared (inside_span c.args.span.first c.args.span.end k i.from c.loop-k-test.true) refl)
          (subst (λ n. ArePassed c.args.problem.now (k + 1) n) e (c.requires.skips.passed (k + 1))) m;
    }
