use Rattle.std.proofs.Common.{◌≡◌, suc, ◌+◌, subst, arith, [], refl, ℕ}
use Rattle.qc_model.specs.Closed.{keeps_ends}
use Rattle.qc_model.specs.Domains.{declared_box}
use Rattle.model_levels.specs.Spans.{is_number_within}
use Rattle.prop_base.specs.Pruning.{IsPruning}
use Rattle.prop_base.proofs.Steps.{pruning_sub}
use Rattle.prop_engine.specs.Closing.{EachRule, IsClosing}
use Rattle.qc_cascade.proofs.Joint.{left_closed, nearer_more, pruned_on, found_here}
use Rattle.qc_cascade.proofs.cascade.first_empty.Goals as goal

pub returns-in-Empty-clause-answer : goal.returns-in-Empty-clause-answer
returns-in-Empty-clause-answer g c =
    let game = c.args.levels.now.problem.now in
    let i = c.args.i.0 in
    let k = c.loop-k.k in
    let a = subst (λ a. IsClosing a (is_number_within game i (suc k)) game c.close_joint.new.store.box) c.in-Empty.is c.in_ok-close_joint.ensures.answer in (
      c.loop-k-test.true,
      found_here game i k c.args.store.now c.close_joint.new.store c.close_joint.new.steps c.loop-k.invariant.ahead (omega (arith, c.loop-k-test.true, c.requires.stop))
          (pruned_on game i k _ _ _ _ _ _ c.loop-k.invariant.pruning c.close_joint.ensures.pruning)
          a
          c.loop-k.invariant.nearer,
    )

more : (k : ℕ) → suc k ≡ k + 1
more k = omega arith

pub loop-k-preserved : goal.loop-k-preserved
loop-k-preserved g c =
    let game = c.args.levels.now.problem.now in
    let i = c.args.i.0 in
    let k = c.loop-k.k in
    let ok = is_number_within game i (suc k) in
    let v = c.loop-k.invariant in
    let a = subst (λ a. IsClosing a ok game c.close_joint.new.store.box) c.in-Open.is c.in_ok-close_joint.ensures.answer in
    let all = pruned_on game i k _ _ _ _ _ _ v.pruning c.close_joint.ensures.pruning in
    record {
      ready = c.close_joint.ensures.ready;
      ahead = omega (arith, v.ahead);
      pruning = subst (λ n. IsPruning (is_number_within game i n) game c.args.store.now c.close_joint.new.store [] c.close_joint.new.steps) (more k) all;
      declared = pruning_sub ok game _ _ _ _ (declared_box game) c.close_joint.ensures.pruning v.declared;
      full = a.0;
      kept = subst (λ n. EachRule (is_number_within game i n) game (keeps_ends c.close_joint.new.store.box)) (more k) a.1;
      nearer = nearer_more game i k (k + 1) c.args.store.now.box refl v.nearer (left_closed game i k c.args.store.now c.close_joint.new.store [] c.close_joint.new.steps c.requires.declared all a);
    }
