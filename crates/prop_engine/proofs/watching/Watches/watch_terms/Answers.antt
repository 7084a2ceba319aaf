use Rattle.qc_model.specs.Valid.{arg_sees}
use Rattle.std.specs.List.{list_all}
use Rattle.std.proofs.Common.{ap, ◌∙◌, refl}
use Rattle.std.specs.Prelude.{slice_get}
use Rattle.qc_model.specs.Arguments.{arg_variables}
use Rattle.model_arguments.specs.Written.{ints_at}
use Rattle.prop_engine.specs.Watching.{resting_end, is_watched}
use Rattle.prop_engine.proofs.Terms.{term_held}
use Rattle.prop_engine.proofs.Watched.{grown_more, watched_more, item_passes, all_passed, grown_none}
use Rattle.prop_engine.proofs.watching.Watches.watch_terms.Goals as goal

pub loop-at-preserved : goal.loop-at-preserved
loop-at-preserved c =
    let i = c.loop-at.invariant in
    let e = c.in_ok-watch_arg.ensures in
    record {
      grown = grown_more c.args.self.now c.loop-at.self c.watch_arg.new.self i.grown e.grown;
      watched = watched_more arg_variables c.args.items.now c.loop-at.at _ c.args.c.0 c.loop-at.self c.watch_arg.new.self c.loop-at-test.true e.grown i.watched e.watched;
      right = λ r. e.right (i.right r);
      order = λ r. e.order (i.order r);
    }

pub watch_arg-requires-clause-held : goal.watch_arg-requires-clause-held
watch_arg-requires-clause-held c x h =
    let at = c.loop-at.at in
    let factors = c.numbers_at-factors.ensures ∙ ap (λ a. ints_at a 0) c.arguments.ensures in
    term_held c.args.rule.now c.args.items.now at c.end_at.result _ x c.requires.sum c.requires.items c.requires.apart c.loop-at-test.true (c.end_at.ensures ∙ ap (λ l. resting_end (slice_get l at)) factors) h

pub loop-at-init : goal.loop-at-init
loop-at-init c = record {
  grown = grown_none c.args.self.now;
  watched = refl;
  right = λ r. r;
  order = λ r. r;
}

pub watch_arg-requires-clause-sees : goal.watch_arg-requires-clause-sees
watch_arg-requires-clause-sees c =
    item_passes (arg_sees c.args.problem.now.variables c.args.rule.now.owner.0) c.args.items.now c.loop-at.at _ c.loop-at-test.true c.requires.sees

pub returns-in_err-watch_arg-clause-grown : goal.returns-in_err-watch_arg-clause-grown
returns-in_err-watch_arg-clause-grown c = grown_more c.args.self.now c.loop-at.self c.watch_arg.new.self c.loop-at.invariant.grown c.watch_arg.ensures.grown

pub returns-in_err-watch_arg-clause-right : goal.returns-in_err-watch_arg-clause-right
returns-in_err-watch_arg-clause-right c r = c.watch_arg.ensures.right (c.loop-at.invariant.right r)

pub returns-in_err-watch_arg-clause-order : goal.returns-in_err-watch_arg-clause-order
returns-in_err-watch_arg-clause-order c r = c.watch_arg.ensures.order (c.loop-at.invariant.order r)

pub returns-clause-watched : goal.returns-clause-watched
returns-clause-watched c =
    all_passed (λ a. list_all (is_watched c.loop-at.self c.args.c.0) (arg_variables a)) c.args.items.now c.loop-at.at c.loop-at-test.false c.loop-at.invariant.watched
