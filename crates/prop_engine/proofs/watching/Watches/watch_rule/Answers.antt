use Rattle.qc_model.specs.Valid.{argument_sees}
use Rattle.std.proofs.Common.{◌≡◌, ◌<◌, ◌≤◌, true, sym, ap, ◌∙◌, subst, length, get_or, refl}
use Rattle.std.specs.Prelude.{Some}
use Rattle.std.specs.List.{list_all}
use Rattle.std.proofs.lemmas.Option.{slice_get-get_or}
use Rattle.qc_model.specs.Arguments.{argument_variables}
use Rattle.prop_engine.specs.Watching.{is_watched}
use Rattle.prop_engine.proofs.Watched.{grown_more, watched_more, item_passes, all_passed, grown_none}
use Rattle.prop_engine.proofs.watching.Watches.watch_rule.Goals as goal

pub loop-place-preserved : goal.loop-place-preserved
loop-place-preserved c =
    let i = c.loop-place.invariant in
    let e = c.in_ok-watch_argument.ensures in
    let n = c.loop-place.place in
    let d = c.index-args-place.result in
    let item = subst (λ l. d ≡ get_or l n d) c.arguments-args.ensures c.index-args-place.is in
    let below = subst (λ l. n < length l) c.arguments-args.ensures c.loop-place-test.true in
    record {
      grown = grown_more c.args.self.now c.loop-place.self c.watch_argument.new.self i.grown e.grown;
      watched = watched_more argument_variables c.args.rule.now.args n d c.args.c.0 c.loop-place.self c.watch_argument.new.self below e.grown i.watched
          (subst (λ a. list_all (is_watched c.watch_argument.new.self c.args.c.0) (argument_variables a) ≡ true) item e.watched);
      right = λ r. e.right (i.right r);
      order = λ r. e.order (i.order r);
    }

pub watch_argument-requires-clause-place : goal.watch_argument-requires-clause-place
watch_argument-requires-clause-place c =
    let n = c.loop-place.place in
    let d = c.index-args-place.result in
    let item = subst (λ l. d ≡ get_or l n d) c.arguments-args.ensures c.index-args-place.is in
    let below = subst (λ l. n < length l) c.arguments-args.ensures c.loop-place-test.true in
    slice_get-get_or c.args.rule.now.args n d below ∙ ap Some (sym item)

pub loop-place-init : goal.loop-place-init
loop-place-init c = record {
  grown = grown_none c.args.self.now;
  watched = refl;
  right = λ r. r;
  order = λ r. r;
}

pub watch_argument-requires-clause-sees : goal.watch_argument-requires-clause-sees
watch_argument-requires-clause-sees c =
    let n = c.loop-place.place in
    let d = c.index-args-place.result in
    let sees = argument_sees c.args.problem.now.variables c.args.rule.now.owner.0 in
    let item = subst (λ l. d ≡ get_or l n d) c.arguments-args.ensures c.index-args-place.is in
    let below = subst (λ l. n < length l) c.arguments-args.ensures c.loop-place-test.true in
    subst (λ a. sees a ≡ true) (sym item) (item_passes sees c.args.rule.now.args n d below c.requires.sees)

pub returns-in_err-watch_argument-clause-grown : goal.returns-in_err-watch_argument-clause-grown
returns-in_err-watch_argument-clause-grown c = grown_more c.args.self.now c.loop-place.self c.watch_argument.new.self c.loop-place.invariant.grown c.watch_argument.ensures.grown

pub returns-in_err-watch_argument-clause-right : goal.returns-in_err-watch_argument-clause-right
returns-in_err-watch_argument-clause-right c r = c.watch_argument.ensures.right (c.loop-place.invariant.right r)

pub returns-in_err-watch_argument-clause-order : goal.returns-in_err-watch_argument-clause-order
returns-in_err-watch_argument-clause-order c r = c.watch_argument.ensures.order (c.loop-place.invariant.order r)

pub returns-clause-watched : goal.returns-clause-watched
returns-clause-watched c =
    let all = subst (λ l. length l ≤ c.loop-place.place) c.arguments-args.ensures c.loop-place-test.false in
    all_passed (λ a. list_all (is_watched c.loop-place.self c.args.c.0) (argument_variables a)) c.args.rule.now.args c.loop-place.place all c.loop-place.invariant.watched
