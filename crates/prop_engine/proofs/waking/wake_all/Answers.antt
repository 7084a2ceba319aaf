use Rattle.std.proofs.Common.{◌≡◌, true, false, sym, ap, ◌∙◌, subst, arith}
use Rattle.std.specs.Prelude.{slice_get}
use Rattle.std.proofs.lemmas.Option.{slice_get-get_or}
use Rattle.prop_engine.specs.Closing.{is_between}
use Rattle.prop_engine.specs.Watching.{is_own, ascends, has_watch, MayRest}
use Rattle.prop_engine.proofs.Kept.{between_below}
use Rattle.prop_engine.proofs.Spared.{rest_all, take_all}
use Rattle.prop_engine.proofs.Watched.{has_early}
use Rattle.prop_engine.proofs.waking.wake_all.Goals as goal

pub loop-watch-preserved : goal.loop-watch-preserved
loop-watch-preserved c =
    let i = c.loop-watch.invariant in
    let e = c.wake_watch.ensures in
    let game = c.args.problem.now in
    let box = c.args.store.now.box in
    record {
      waiting = e.waiting;
      inside = e.inside;
      hints = e.hints;
      count = e.count;
      kept = λ k m. e.kept k (i.kept k m);
      spared = λ k b o. rest_all game c.loop-watch.list c.wake_watch.new.list box c.args.moved c.args.x.0 c.of-watch-items.result.now c.loop-watch.watch-index k _ c.loop-watch-test.true e.kept (i.spared k b o)
          (λ s. subst (λ j. is_between c.args.span.first c.args.span.end j ≡ true → is_own c.args.own j ≡ false → MayRest game c.wake_watch.new.list box c.args.moved c.args.x.0 j) s e.spared b o);
    }

-- one that stands behind is past the span
pub returns-then-span-watch-clause-spared : goal.returns-then-span-watch-clause-spared
returns-then-span-watch-clause-spared c k b o w =
    let i = c.loop-watch.watch-index in
    let ws = c.of-watch-items.result.now in
    let e = c.of-watch-items.ensures in
    let order = ap ascends e ∙ c.requires.watches.order c.args.x.0 in
    let past = between_below c.args.span.first c.args.span.end _ k c.if-span-watch.true b in
    c.loop-watch.invariant.spared k b o (has_early ws i k _ order c.loop-watch-test.true past (ap (λ l. has_watch l k) e ∙ w))

pub wake_watch-requires-clause-right : goal.wake_watch-requires-clause-right
wake_watch-requires-clause-right c =
    let i = c.loop-watch.watch-index in
    c.requires.watches.right c.args.x.0 i _ (ap (λ l. slice_get l i) (sym c.of-watch-items.ensures) ∙ slice_get-get_or c.of-watch-items.result.now i _ c.loop-watch-test.true)

pub returns-clause-spared : goal.returns-clause-spared
returns-clause-spared c k b o w =
    let ws = c.of-watch-items.result.now in
    c.loop-watch.invariant.spared k b o (ap (λ l. has_watch l k) (take_all ws c.loop-watch.watch-index (omega (arith, c.loop-watch-test.false)) ∙ c.of-watch-items.ensures) ∙ w)
