use Rattle.prop_engine.specs.Watching.{is_watched}
use Rattle.qc_model.specs.Valid.{arg_sees}
use Rattle.std.specs.List.{list_all}
use Rattle.std.proofs.Common.{refl}
use Rattle.qc_model.specs.Arguments.{arg_variables}
use Rattle.prop_engine.proofs.Watched.{grown_more, watched_more, flat_has, item_passes, all_passed, grown_none}
use Rattle.prop_engine.proofs.watching.Watches.watch_items.Goals as goal

pub loop-item-preserved : goal.loop-item-preserved
loop-item-preserved c =
    let i = c.loop-item.invariant in
    let e = c.in_ok-watch_arg.ensures in
    record {
      grown = grown_more c.args.self.now c.loop-item.self c.watch_arg.new.self i.grown e.grown;
      watched = watched_more arg_variables c.args.items.now c.loop-item.item-index _ c.args.c.0 c.loop-item.self c.watch_arg.new.self c.loop-item-test.true e.grown i.watched e.watched;
      right = λ r. e.right (i.right r);
      order = λ r. e.order (i.order r);
    }

pub watch_arg-requires-clause-held : goal.watch_arg-requires-clause-held
watch_arg-requires-clause-held c x h =
    c.requires.held x (flat_has c.args.items.now c.loop-item.item-index _ x c.loop-item-test.true h)

pub loop-item-init : goal.loop-item-init
loop-item-init c = record {
  grown = grown_none c.args.self.now;
  watched = refl;
  right = λ r. r;
  order = λ r. r;
}

pub watch_arg-requires-clause-sees : goal.watch_arg-requires-clause-sees
watch_arg-requires-clause-sees c =
    item_passes (arg_sees c.args.problem.now.variables c.args.rule.now.owner.0) c.args.items.now c.loop-item.item-index _ c.loop-item-test.true c.requires.sees

pub returns-in_err-watch_arg-clause-grown : goal.returns-in_err-watch_arg-clause-grown
returns-in_err-watch_arg-clause-grown c = grown_more c.args.self.now c.loop-item.self c.watch_arg.new.self c.loop-item.invariant.grown c.watch_arg.ensures.grown

pub returns-in_err-watch_arg-clause-right : goal.returns-in_err-watch_arg-clause-right
returns-in_err-watch_arg-clause-right c r = c.watch_arg.ensures.right (c.loop-item.invariant.right r)

pub returns-in_err-watch_arg-clause-order : goal.returns-in_err-watch_arg-clause-order
returns-in_err-watch_arg-clause-order c r = c.watch_arg.ensures.order (c.loop-item.invariant.order r)

pub returns-clause-watched : goal.returns-clause-watched
returns-clause-watched c =
    all_passed (λ a. list_all (is_watched c.loop-item.self c.args.c.0) (arg_variables a)) c.args.items.now c.loop-item.item-index c.loop-item-test.false c.loop-item.invariant.watched
