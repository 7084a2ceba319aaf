use Rattle.std.proofs.Common.{◌-◌}
use Rattle.std.proofs.Math.Nat.{le_refl}
use Rattle.fd_store.proofs.Finding.{none_after, none_yet, from_none, past_first, none_right, last_set_at, some_word, less_within, min_past, some_in_word, min_in_word, up_to_min, word_inside, word_fits, next_fits, end_fits}
use Rattle.fd_store.proofs.words.end_of_set.Goals as goal

pub loop-w-init : goal.loop-w-init
loop-w-init c = record { within = le_refl _; none = none_yet c.args.words.now c.args.e }

pub overflow_sub-w : goal.overflow_sub-w
overflow_sub-w c = some_word c.args.a c.loop-w.w c.loop-w-test.true

pub bounds-words-w : goal.bounds-words-w
bounds-words-w c = word_inside c.args.e c.loop-w.w _ (some_word c.args.a c.loop-w.w c.loop-w-test.true) c.loop-w.invariant.within c.requires.inside

pub overflow_mul-w : goal.overflow_mul-w
overflow_mul-w c = record { fits = word_fits (c.loop-w.w - 1) _ (word_inside c.args.e c.loop-w.w _ (some_word c.args.a c.loop-w.w c.loop-w-test.true) c.loop-w.invariant.within c.requires.inside) c.requires.small }

pub overflow_mul-w-in-loop-w : goal.overflow_mul-w-in-loop-w
overflow_mul-w-in-loop-w c = record { fits = word_fits (c.loop-w.w - 1) _ (word_inside c.args.e c.loop-w.w _ (some_word c.args.a c.loop-w.w c.loop-w-test.true) c.loop-w.invariant.within c.requires.inside) c.requires.small }

pub overflow_mul-result : goal.overflow_mul-result
overflow_mul-result c = record { fits = word_fits (c.loop-w.w - 1) _ (word_inside c.args.e c.loop-w.w _ (some_word c.args.a c.loop-w.w c.loop-w-test.true) c.loop-w.invariant.within c.requires.inside) c.requires.small }

pub overflow_add-w-in-loop-w : goal.overflow_add-w-in-loop-w
overflow_add-w-in-loop-w c = record { fits = next_fits (c.loop-w.w - 1) _ (word_inside c.args.e c.loop-w.w _ (some_word c.args.a c.loop-w.w c.loop-w-test.true) c.loop-w.invariant.within c.requires.inside) c.requires.small }

pub overflow_sub-min : goal.overflow_sub-min
overflow_sub-min c = min_past c.args.e c.loop-w.w c.min.result (some_word c.args.a c.loop-w.w c.loop-w-test.true) c.loop-w.invariant.within c.min.ensures

pub end_in_word-k-requires-clause-some : goal.end_in_word-k-requires-clause-some
end_in_word-k-requires-clause-some c = some_in_word c.args.e c.loop-w.w c.min.result (some_word c.args.a c.loop-w.w c.loop-w-test.true) c.loop-w.invariant.within c.min.ensures

pub end_in_word-k-requires-clause-inside : goal.end_in_word-k-requires-clause-inside
end_in_word-k-requires-clause-inside c = min_in_word c.args.e (c.loop-w.w - 1) c.min.result c.min.ensures

pub overflow_add-result : goal.overflow_add-result
overflow_add-result c = record { fits = end_fits c.args.e (c.loop-w.w - 1) _ c.min.result c.end_in_word-k.result (word_inside c.args.e c.loop-w.w _ (some_word c.args.a c.loop-w.w c.loop-w-test.true) c.loop-w.invariant.within c.requires.inside) c.requires.small c.min.ensures c.end_in_word-k.ensures.most }

pub returns-then-k-gt0-clause-from : goal.returns-then-k-gt0-clause-from
returns-then-k-gt0-clause-from c = past_first c.args.words.now c.args.a c.args.e _ c.requires.order c.requires.first (none_after c.args.words.now c.args.e c.loop-w.w c.min.result c.end_in_word-k.result (some_word c.args.a c.loop-w.w c.loop-w-test.true) c.min.ensures c.loop-w.invariant.none c.end_in_word-k.ensures.none)

pub returns-then-k-gt0-clause-below : goal.returns-then-k-gt0-clause-below
returns-then-k-gt0-clause-below c = up_to_min c.args.e c.loop-w.w c.min.result c.end_in_word-k.result (some_word c.args.a c.loop-w.w c.loop-w-test.true) c.loop-w.invariant.within c.min.ensures c.end_in_word-k.ensures.most

pub returns-then-k-gt0-clause-found : goal.returns-then-k-gt0-clause-found
returns-then-k-gt0-clause-found c = last_set_at c.args.words.now (c.loop-w.w - 1) c.end_in_word-k.result c.args.e c.min.result c.if-k-gt0.true c.end_in_word-k.ensures.most c.min.ensures (c.end_in_word-k.ensures.found c.if-k-gt0.true)

pub returns-then-k-gt0-clause-none : goal.returns-then-k-gt0-clause-none
returns-then-k-gt0-clause-none c = none_after c.args.words.now c.args.e c.loop-w.w c.min.result c.end_in_word-k.result (some_word c.args.a c.loop-w.w c.loop-w-test.true) c.min.ensures c.loop-w.invariant.none c.end_in_word-k.ensures.none

pub loop-w-preserved : goal.loop-w-preserved
loop-w-preserved c =
    record {
      within = less_within c.loop-w.w _ c.loop-w.invariant.within;
      none = λ p h l. none_after c.args.words.now c.args.e c.loop-w.w c.min.result c.end_in_word-k.result (some_word c.args.a c.loop-w.w c.loop-w-test.true) c.min.ensures c.loop-w.invariant.none c.end_in_word-k.ensures.none p (from_none _ c.end_in_word-k.result p c.if-k-gt0.false h) l;
    }

pub unreachable-requires : goal.unreachable-requires
unreachable-requires c = none_right c.args.words.now c.args.a c.args.e c.loop-w.w c.requires.order c.loop-w-test.false c.requires.first c.loop-w.invariant.none
