use Rattle.std.proofs.Common.{ap, ◌∙◌, refl, arith, ◌≡◌, true, subst, sym}
use Rattle.prop_engine.specs.Watching.{names, is_watched}
use Rattle.prop_engine.proofs.Spared.{rest_ever, rest_named, take_all}
use Rattle.prop_engine.proofs.waking.wake_variables.Goals as goal

pub loop-x-preserved : goal.loop-x-preserved
loop-x-preserved c =
    let i = c.loop-x.invariant in
    let e = c.wake_all.ensures in
    record {
      waiting = e.waiting;
      inside = e.inside;
      hints = e.hints;
      count = e.count;
      kept = λ k m. e.kept k (i.kept k m);
      spared = λ k x b n w. rest_named c.args.problem.now c.loop-x.list c.wake_all.new.list c.args.store.now.box c.args.variables.now c.loop-x.x-index k x (record { 0 = 0 }) c.loop-x-test.true e.kept
          (λ m. i.spared k x b m w)
          (λ s. rest_ever c.args.problem.now c.wake_all.new.list c.args.store.now.box c.ends_moved_ever.result _ x k s c.ends_moved_ever.ensures.least c.ends_moved_ever.ensures.greatest
          (e.spared k b refl (subst (λ y. is_watched c.args.watches.now k y ≡ true) (sym s) w))) n;
    }

pub returns-clause-spared : goal.returns-clause-spared
returns-clause-spared c k x b n w =
    c.loop-x.invariant.spared k x b (ap (λ xs. names xs x) (take_all c.args.variables.now c.loop-x.x-index (omega (arith, c.loop-x-test.false))) ∙ n) w
