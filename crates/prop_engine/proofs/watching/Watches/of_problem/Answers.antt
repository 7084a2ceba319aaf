use Rattle.std.proofs.Common.{◌∙◌, arith}
use Rattle.prop_engine.proofs.Watched.{rule_sees, rules_more, below_all, ascend_next}
use Rattle.prop_engine.proofs.watching.Watches.of_problem.Goals as goal

pub watch_rule-requires-clause-sees : goal.watch_rule-requires-clause-sees
watch_rule-requires-clause-sees c = rule_sees c.args.problem.now c.loop-c.c c.constraint.result.now c.known.ensures c.constraint.ensures

pub loop-c-preserved : goal.loop-c-preserved
loop-c-preserved c =
    let i = c.loop-c.invariant in
    let e = c.in_ok-watch_rule.ensures in
    record {
      count = e.grown.count ∙ i.count;
      below = omega (arith, c.loop-c-test.true, c.constraints.ensures);
      watched = rules_more c.args.problem.now.constraints c.loop-c.c c.constraint.result.now c.loop-c.watches c.watch_rule.new.self e.grown c.constraint.ensures e.watched i.watched;
      right = e.right i.right;
      order = ascend_next c.loop-c.c c.watch_rule.new.self (e.order i.order);
    }

pub returns : goal.returns
returns c =
    let i = c.loop-c.invariant in
    record {
      count = i.count;
      watched = λ k r s. i.watched k r (omega (arith, below_all c.args.problem.now.constraints k r s, c.loop-c-test.false, c.constraints.ensures)) s;
      order = i.order.order;
      right = i.right;
    }
