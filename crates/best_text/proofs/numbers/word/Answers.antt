use Rattle.std.proofs.lemmas.List.{nil_from_length}
use Rattle.best_text.proofs.Alike.{word_ended, word_differs}
use Rattle.best_text.proofs.numbers.word.Goals as goal

pub returns-in_default-clause-err : goal.returns-in_default-clause-err
returns-in_default-clause-err c = word_ended c.args.wanted.now c.args.bytes.now c.loop-next.rest.now c.loop-next.next-index c.loop-next-test.true c.loop-next.invariant (nil_from_length c.loop-next.rest.now c.in_default.ensures.cases)

pub returns-then-first-next-clause-err : goal.returns-then-first-next-clause-err
returns-then-first-next-clause-err c =
    word_differs c.args.wanted.now c.args.bytes.now c.loop-next.rest.now c.in-Some.after.now c.loop-next.next-index c.in-Some.first.now c.loop-next-test.true c.loop-next.invariant c.in-Some.ensures.cases.0 c.if-first-next.true
