use Rattle.fd_store.proofs.Finding.{none_before, in_next, before_end, none_left, set_at, from_max, max_in_word, max_past, word_fits, place_fits}
use Rattle.fd_store.proofs.words.next_set.Goals as goal

pub first_in_word-k-requires : goal.first_in_word-k-requires
first_in_word-k-requires c = max_in_word c.args.a c.loop-w.w c.max.result c.max.ensures c.loop-w.auto.w

pub overflow_sub-max : goal.overflow_sub-max
overflow_sub-max c = max_past c.args.a c.loop-w.w c.max.result c.max.ensures

pub overflow_mul-w : goal.overflow_mul-w
overflow_mul-w c = record { fits = word_fits c.loop-w.w _ c.loop-w-test.true c.requires.small }

pub overflow_mul-w-in-loop-w : goal.overflow_mul-w-in-loop-w
overflow_mul-w-in-loop-w c = record { fits = word_fits c.loop-w.w _ c.loop-w-test.true c.requires.small }

pub overflow_mul-result : goal.overflow_mul-result
overflow_mul-result c = record { fits = word_fits c.loop-w.w _ c.loop-w-test.true c.requires.small }

pub overflow_add-result : goal.overflow_add-result
overflow_add-result c = record { fits = place_fits c.loop-w.w _ c.first_in_word-k.result c.loop-w-test.true c.requires.small c.if-k-lt64.true }

pub returns-then-k-lt64-clause-from : goal.returns-then-k-lt64-clause-from
returns-then-k-lt64-clause-from c = from_max c.args.a c.loop-w.w c.max.result c.first_in_word-k.result c.max.ensures (c.first_in_word-k.ensures.from c.if-k-lt64.true)

pub returns-then-k-lt64-clause-below : goal.returns-then-k-lt64-clause-below
returns-then-k-lt64-clause-below c = before_end c.args.words.now c.args.a c.args.e _ c.requires.order c.requires.last (none_before c.args.words.now c.args.a c.loop-w.w c.max.result c.first_in_word-k.result c.first_in_word-k.ensures.most c.max.ensures c.loop-w.invariant c.first_in_word-k.ensures.none)

pub returns-then-k-lt64-clause-found : goal.returns-then-k-lt64-clause-found
returns-then-k-lt64-clause-found c = set_at c.args.words.now c.loop-w.w c.first_in_word-k.result c.if-k-lt64.true (c.first_in_word-k.ensures.found c.if-k-lt64.true)

pub returns-then-k-lt64-clause-none : goal.returns-then-k-lt64-clause-none
returns-then-k-lt64-clause-none c = none_before c.args.words.now c.args.a c.loop-w.w c.max.result c.first_in_word-k.result c.first_in_word-k.ensures.most c.max.ensures c.loop-w.invariant c.first_in_word-k.ensures.none

pub loop-w-preserved : goal.loop-w-preserved
loop-w-preserved c = λ p h l. none_before c.args.words.now c.args.a c.loop-w.w c.max.result c.first_in_word-k.result c.first_in_word-k.ensures.most c.max.ensures c.loop-w.invariant c.first_in_word-k.ensures.none p h (in_next c.loop-w.w c.first_in_word-k.result p c.if-k-lt64.false l)

pub unreachable-requires : goal.unreachable-requires
unreachable-requires c = none_left c.args.words.now c.args.a c.args.e c.loop-w.w c.requires.order c.requires.inside c.loop-w-test.false c.requires.last c.loop-w.invariant
