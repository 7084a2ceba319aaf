use Rattle.std.proofs.Common.{◌∙◌, ◌-◌, ap, length, take, drop}
use Rattle.prop_engine.specs.Watching.{changed_by}
use Rattle.qc_cascade.proofs.Added.{changed_more, changed_whole}
use Rattle.qc_cascade.proofs.adding.changed_since.Goals as goal

pub loop-step-preserved : goal.loop-step-preserved
loop-step-preserved c =
    let items = c.items.result.now in
    let fresh = take (length items - c.args.from) (drop c.args.from items) in
    changed_more fresh c.loop-step.step-index _ c.loop-step.variables.items c.push.new.self.items c.variable_of.result c.loop-step-test.true c.loop-step.invariant c.in_ok-push.ensures.items c.variable_of.ensures

pub returns : goal.returns
returns c =
    changed_whole c.items.result.now c.args.from c.loop-step.step-index c.loop-step.variables.items c.loop-step-test.false c.loop-step.invariant ∙ ap (λ l. changed_by (drop c.args.from l)) c.items.ensures
