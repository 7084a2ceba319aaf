use Rattle.std.proofs.Common.{◌≡◌, ◌<◌, ◌≤◌, ◌+◌, ◌-◌, ◌∙◌, length, subst, arith}
use Rattle.std.proofs.lemmas.List.{length-set}
use Rattle.prop_engine.proofs.Passed.{none_passed, set_forward, set_passed}
use Rattle.prop_engine.proofs.skipping.Skips.of_problem.Goals as goal

pub loop-k-preserved : goal.loop-k-preserved
loop-k-preserved c =
    let i = c.loop-k.invariant in
    let e = c.first_from-first.ensures in
    let k = c.loop-k.k - 1 in
    let first = c.first_from-first.result in
    let some = c.loop-k-test.true in
    let back : k + 1 ≡ c.loop-k.k = omega (arith, some) in
    let below : k < length c.loop-k.next.items = omega (arith, some, i.below, i.count) in
    record {
      count = length-set c.loop-k.next.items k first ∙ i.count;
      below = omega (arith, i.below);
      above = e.forward;
      first = e.passed;
      forward = set_forward c.loop-k.next.items k first below e.forward (λ j l. i.forward j (subst (λ n. n ≤ j) back l));
      passed = set_passed c.args.problem.now c.loop-k.next.items k first below e.passed (λ j l. i.passed j (subst (λ n. n ≤ j) back l));
    }

pub returns : goal.returns
returns c = none_passed c.args.problem.now c.loop-k.next.items c.loop-k.k (omega (arith, c.loop-k-test.false)) c.loop-k.invariant.forward c.loop-k.invariant.passed
