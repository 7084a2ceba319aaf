use Rattle.std.proofs.Common.{pos}
use Rattle.proof_tree.specs.declared.tree.Step.{Step}
use Rattle.proof_tree.specs.declared.tree.Step.TheVariants.{Prune}
use Rattle.prop_base.proofs.Steps.{pruning_more}
use Rattle.prop_engine.specs.Closing.{is_between}
use Rattle.search_box.proofs.Repeated.{next_legal, rest_legal, rest_reaches}
use Rattle.search_box.proofs.repeating.repeat.Goals as goal

-- what stands for a step where there is none
abbrev nothing : Step
nothing = Prune (record { 0 = 0 }) (pos 0) (pos 0) (record { 0 = 0 })

pub repeat_one-requires : goal.repeat_one-requires
repeat_one-requires c = next_legal (is_between c.args.span.first c.args.span.end) c.args.problem.now c.args.taken.now c.loop-step.step-index nothing c.loop-step.store.box c.loop-step-test.true c.loop-step.invariant.legal

pub returns-in_err-repeat_one-clause-pruning : goal.returns-in_err-repeat_one-clause-pruning
returns-in_err-repeat_one-clause-pruning c = pruning_more (is_between c.args.span.first c.args.span.end) c.args.problem.now _ _ _ _ _ _ c.loop-step.invariant.pruning c.repeat_one.ensures.pruning

pub loop-step-preserved : goal.loop-step-preserved
loop-step-preserved c =
    let ok = is_between c.args.span.first c.args.span.end in
    let i = c.loop-step.invariant in
    let left = c.in_ok-repeat_one.ensures.content in
    record {
      pruning = pruning_more ok c.args.problem.now _ _ _ _ _ _ i.pruning c.repeat_one.ensures.pruning;
      legal = rest_legal ok c.args.problem.now c.args.taken.now c.loop-step.step-index nothing c.loop-step.store.box c.repeat_one.new.store.box c.loop-step-test.true i.legal left;
      reaches = rest_reaches c.args.taken.now c.loop-step.step-index nothing c.loop-step.store.box c.repeat_one.new.store.box _ c.loop-step-test.true i.reaches left;
    }
