use Rattle.std.proofs.Common.{◌∙◌, ap, subst, arith, length, drop}
use Rattle.qc_model.specs.Domains.{declared_box}
use Rattle.prop_base.proofs.Steps.{pruning_more, pruning_total, pruning_sub}
use Rattle.prop_engine.specs.Closing.{is_between}
use Rattle.std.specs.Prelude.{slice_get}
use Rattle.prop_engine.specs.Watching.{IsFound}
use Rattle.prop_engine.proofs.Kept.{take_rest}
use Rattle.prop_engine.proofs.Woken.{kept_woken}
use Rattle.prop_engine.proofs.engine.settle.Goals as goal

pub returns-in_err-next_change-clause-pruning : goal.returns-in_err-next_change-clause-pruning
returns-in_err-next_change-clause-pruning g c =
    pruning_more (is_between c.args.span.first c.args.span.end) c.args.problem.now _ _ _ _ _ _ c.loop-own.invariant.pruning c.next_change.ensures.pruning

pub returns-in-Settled-clause-pruning : goal.returns-in-Settled-clause-pruning
returns-in-Settled-clause-pruning g c =
    pruning_more (is_between c.args.span.first c.args.span.end) c.args.problem.now _ _ _ _ _ _ c.loop-own.invariant.pruning c.next_change.ensures.pruning

pub returns-in-Emptied-clause-pruning : goal.returns-in-Emptied-clause-pruning
returns-in-Emptied-clause-pruning g c =
    pruning_more (is_between c.args.span.first c.args.span.end) c.args.problem.now _ _ _ _ _ _ c.loop-own.invariant.pruning c.next_change.ensures.pruning

pub loop-own-smaller : goal.loop-own-smaller
loop-own-smaller g c =
    let ok = is_between c.args.span.first c.args.span.end in
    let a = subst (λ f. IsFound f ok c.args.problem.now c.next_change.new.list c.loop-own.store.box c.next_change.new.store.box c.loop-own.steps c.next_change.new.steps) c.in-Changed.is c.in_ok-next_change.ensures.answer in
    omega (arith, a.1, pruning_total ok c.args.problem.now _ _ _ _ c.next_change.ensures.pruning)

pub wake_changed-requires-clause-declared : goal.wake_changed-requires-clause-declared
wake_changed-requires-clause-declared g c =
    pruning_sub (is_between c.args.span.first c.args.span.end) c.args.problem.now _ _ _ _ (declared_box c.args.problem.now) c.next_change.ensures.pruning c.loop-own.invariant.declared

pub loop-own-preserved : goal.loop-own-preserved
loop-own-preserved g c =
    let ok = is_between c.args.span.first c.args.span.end in
    let game = c.args.problem.now in
    let a = subst (λ f. IsFound f ok game c.next_change.new.list c.loop-own.store.box c.next_change.new.store.box c.loop-own.steps c.next_change.new.steps) c.in-Changed.is c.in_ok-next_change.ensures.answer in
    let w = c.wake_changed.ensures in
    let fresh = drop (length c.items-before.result.now) c.items.result.now in
    let slice = take_rest (length c.items-before.result.now) c.items.result.now in
    let same = ap (λ l. drop (length l) c.items.result.now) c.items-before.ensures ∙ ap (drop (length c.loop-own.steps)) c.items.ensures in
    record {
      pruning = pruning_more ok game _ _ _ _ _ _ c.loop-own.invariant.pruning c.next_change.ensures.pruning;
      declared = pruning_sub ok game _ _ _ _ (declared_box game) c.next_change.ensures.pruning c.loop-own.invariant.declared;
      full = a.0;
      hints = w.hints;
      count = w.count;
      waiting = w.waiting;
      inside = w.inside;
      kept = kept_woken ok ok game c.args.watches.now c.in-Changed.own c.next_change.new.list c.wake_changed.new.list c.loop-own.store c.next_change.new.store c.loop-own.steps c.next_change.new.steps fresh c.requires.watches c.next_change.ensures.pruning same a.0 a.2 w.kept
          (λ k i z o n p m. w.spared k i z o n (ap (λ l. slice_get l i) slice ∙ p) m);
    }

pub wake_changed-requires-clause-full : goal.wake_changed-requires-clause-full
wake_changed-requires-clause-full g c =
    let a = subst (λ f. IsFound f (is_between c.args.span.first c.args.span.end) c.args.problem.now c.next_change.new.list c.loop-own.store.box c.next_change.new.store.box c.loop-own.steps c.next_change.new.steps) c.in-Changed.is c.in_ok-next_change.ensures.answer in
    a.0
